-- What the subjects at which a test fails mean: where it fails at an item of a list, and nowhere else, in rising order.
use Rattle.std.specs.Prelude.{ℕ, ◌≡◌, ◌<◌, ◌+◌, ◌↔◌, List, AllPairs, Bool, Contains, Some, IsTrue, slice_get}
use Rattle.dip_lists.specs.First.{places}

-- a test fails at a subject: the item there, where the subjects of the items are counted from a first one
pub record FailsAt (fails : ℕ → ℕ → Bool) (start : ℕ) (items : List ℕ) (subject : ℕ) : Type 0 where
  pub place : ℕ
  pub item : ℕ
  pub is : slice_get items place ≡ Some item
  pub counted : subject ≡ start + place
  pub failing : IsTrue (fails subject item)

-- said of lists of numbers; what the items are has no part in it
pub record PlacesLaw : Type 0 where
  pub failing : (fails : ℕ → ℕ → Bool) (start : ℕ) (items : List ℕ) (subject : ℕ)
      → Contains (places fails start items) subject ↔ FailsAt fails start items subject
  pub rising : (fails : ℕ → ℕ → Bool) (start : ℕ) (items : List ℕ) → AllPairs (λ a b. a < b) (places fails start items)
