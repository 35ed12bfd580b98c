-- The tags of beats, beside the leaves: which request, and which piece of it, a beat belongs to. No act goes by a tag.
use Rattle.std.specs.Prelude.{ℕ, ◌≡◌, ◌+◌, ◌*◌, ◌%◌, ◌^◌, Option, Some, None}
use Rattle.std.specs.Option.{option_map}
use Rattle.tl_edge.specs.declared.beat.ABeat.{ABeat}
use Rattle.tl_edge.specs.declared.beat.DBeat.{DBeat}
use Rattle.tl_edge.specs.declared.beat.Tag.{Tag}
use Rattle.flow_core.specs.Acts.{Act}
use Rattle.flow_core.specs.Fragmenting.{pieces_in}
use Rattle.flow_core.specs.Leaves.{LeafState, down, down_alone, up, up_alone}
use Rattle.flow_core.specs.Leaves.LeafState.{BufferState, XbarState, ShrinkerState, WidthState, FragmenterState}

-- a leaf's state, and the tag of the request that a fragmenter has in hand
pub record Held : Type 0 where
  pub leaf : LeafState
  pub tag : Tag

-- the tag of no request
abbrev pub no_tag : Tag
no_tag = record { port = 0; index = 0; piece = 0 }

-- the tag in hand when a head has gone into a leaf: a fragmenter that is idle takes the head's
abbrev pub tag_in_hand : LeafState → Tag → Tag → Tag
tag_in_hand BufferState held head = held
tag_in_hand (XbarState bar gates) held head = held
tag_in_hand (ShrinkerState width slots) held head = held
tag_in_hand (WidthState widths widget) held head = held
tag_in_hand (FragmenterState knife None) held head = head
tag_in_hand (FragmenterState knife (Some hand)) held head = held

-- the tag of a piece by its number: a request with number t that is cut into n has pieces t n, t n + 1 and so on
abbrev pub piece_tag : Tag → ℕ → ℕ → Tag
piece_tag tag pieces number =
    record { port = tag.port; index = tag.index; piece = (tag.piece * pieces + number) % 2 ^ 32 }

-- the tag of what a leaf has put, by its state afterwards: that of the piece in hand at a fragmenter, else the head's
abbrev pub put_tag : LeafState → Tag → Tag → Tag
put_tag BufferState held head = head
put_tag (XbarState bar gates) held head = head
put_tag (ShrinkerState width slots) held head = head
put_tag (WidthState widths widget) held head = head
put_tag (FragmenterState knife None) held head = head
put_tag (FragmenterState knife (Some hand)) held head = piece_tag held (pieces_in knife hand.head) hand.piece

-- an act with the tag of what is put and the tag in hand afterwards
abbrev pub tagged : {B : Type 0} → Tag → Tag → Act B LeafState → Act (B × Tag) Held
tagged put held act = record {
  take = act.take;
  put = option_map (λ beat. (beat, put)) act.put;
  next = record { leaf = act.next; tag = held };
}

-- an act on channel A, by the tags of the head and in hand
abbrev pub tagged_down : Tag → Tag → Act ABeat LeafState → Act (ABeat × Tag) Held
tagged_down head held act = tagged (put_tag act.next held head) held act

-- channel A with a head
abbrev pub held_down : Held → ℕ → ℕ → ℕ → ABeat × Tag → Option (Act (ABeat × Tag) Held)
held_down held id input output head =
    option_map
    (tagged_down head.1 (tag_in_hand held.leaf held.tag head.1))
    (down held.leaf id input output head.0)

-- channel A without a head
abbrev pub held_down_alone : Held → ℕ → ℕ → ℕ → Option (Act (ABeat × Tag) Held)
held_down_alone held id input output =
    option_map (tagged_down held.tag held.tag)
    (down_alone held.leaf id input output)

-- channel D with a head, whose tag passes
abbrev pub held_up : Held → ℕ → ℕ → DBeat × Tag → Option (Act (DBeat × Tag) Held)
held_up held input output head = option_map (tagged head.1 held.tag) (up held.leaf input output head.0)

-- channel D without a head: the whole response has the tag in hand
abbrev pub held_up_alone : Held → ℕ → ℕ → Option (Act (DBeat × Tag) Held)
held_up_alone held input output = option_map (tagged held.tag held.tag) (up_alone held.leaf input output)

-- an act without its tags
abbrev pub untagged : {B : Type 0} → Act (B × Tag) Held → Act B LeafState
untagged act = record { take = act.take; put = option_map (λ beat. beat.0) act.put; next = act.next.leaf }

-- tags never decide a move: without them the acts are those of the leaf
pub record TagsLaw : Type 0 where
  pub a : (held : Held) (id input output : ℕ) (head : ABeat × Tag)
      → option_map untagged (held_down held id input output head) ≡ down held.leaf id input output head.0
  pub a_alone : (held : Held) (id input output : ℕ)
      → option_map untagged (held_down_alone held id input output) ≡ down_alone held.leaf id input output
  pub d : (held : Held) (input output : ℕ) (head : DBeat × Tag)
      → option_map untagged (held_up held input output head) ≡ up held.leaf input output head.0
  pub d_alone : (held : Held) (input output : ℕ)
      → option_map untagged (held_up_alone held input output) ≡ up_alone held.leaf input output
