-- By whatever relation wires follow a machine, they are it.
use Rattle.std.proofs.Common.{ℕ}
use Rattle.net_build.specs.Built.{Built}
use Rattle.net_build.specs.Values.{Later}
use Rattle.net_queue.specs.Machines.{Machine, Follows, Reached, IsMachine}
use Rattle.net_queue.specs.Machines.Reached.{begins, goes}

module _ {S X D Y E : Type 0} (m : Machine S X D) (fits : S → X → Type 0) (seen : X → Y) (told : D → E) (sees : (ℕ → ℕ) → Y) (shows : (ℕ → ℕ) → E) where
  stood : (b : Built) (stands : (ℕ → ℕ) → S → Type 0) → Follows b m fits seen told sees shows stands → (v : ℕ → ℕ) (s : S) → Reached b m fits seen sees v s → stands v s
  stood b stands f v s (begins _ a) = f.starts v a
  stood b stands f v s (goes u _ t x r q k z e g) = f.nexts u v t x q k z (stood b stands f u t r) e g

  pub machine_of : (b : Built) (stands : (ℕ → ℕ) → S → Type 0) → Follows b m fits seen told sees shows stands → IsMachine b m fits seen told sees shows
  machine_of b stands f = record { does = λ v s x r q z e g. f.does v s x q z (stood b stands f v s r) e g }

  -- nothing is lost: they follow it by what is reached
  pub follows_reached : (b : Built) → IsMachine b m fits seen told sees shows → Follows b m fits seen told sees shows (Reached b m fits seen sees)
  follows_reached b h = record {
    starts = λ v a. begins v a;
    does = λ v s x q z r e g. h.does v s x r q z e g;
    nexts = λ v u s x q k z r e g. goes v u s x r q k z e g;
  }

  reached_earlier : (old new : Built) → Later old new → (v : ℕ → ℕ) (s : S) → Reached new m fits seen sees v s → Reached old m fits seen sees v s
  reached_earlier old new l v s (begins _ a) = begins v (l.starts v a)
  reached_earlier old new l v s (goes u _ t x r q k z e g) = goes u v t x (reached_earlier old new l u t r) (l.back u q) (l.ticks u v k) z e g

  -- it stays so as the builder grows
  pub machine_later : (old new : Built) → Later old new → IsMachine old m fits seen told sees shows → IsMachine new m fits seen told sees shows
  machine_later old new l h = record { does = λ v s x r q z e g. h.does v s x (reached_earlier old new l v s r) (l.back v q) z e g }
