-- What an adapter does needs room, and a head.
use Rattle.std.proofs.Common.{◌≡◌, ℕ, zero, suc, Bool, true, false, cond, List, [], ◌∷◌, Option, Some, None, is_some, get_or, refl}
use Rattle.std.specs.Option.{option_and_then, option_map, option_or}
use Rattle.flow_core.specs.Acts.{Act}
use Rattle.flow_core.specs.Leaves.{down, down_alone, up, up_alone}
use Rattle.net_queue.specs.Adapters.{AdaptersAreGuarded, act_a, act_by, act_d, put_by, taken_by, untaken, with_room}

abbrev act_of : {B S : Type 0} → Bool → Option B → S → Act B S
act_of take put next = record { take = take; put = put; next = next }

room_of : {B S : Type 0} (room take : Bool) (put : Option B) (next : S) → is_some (put_by (with_room room (act_of take put next))) ≡ true → room ≡ true
room_of true take put next h = refl
room_of false take None next h = absurd (let x : false ≡ true = h in cc)
room_of false take (Some beat) next h = absurd (let x : false ≡ true = h in cc)

room_by : {B S : Type 0} (room : Bool) (made : Option (Act B S)) → is_some (put_by (option_and_then (with_room room) made)) ≡ true → room ≡ true
room_by room None h = absurd (let x : false ≡ true = h in cc)
room_by room (Some act) h = room_of room act.take act.put act.next h

untaken_none : {B S : Type 0} (c : Bool) (act : Act B S) → taken_by (cond c None (Some (untaken act))) ≡ true → ⊥
untaken_none true act h = let x : false ≡ true = h in cc
untaken_none false act h = let x : false ≡ true = h in cc

pub puts_room : {B S : Type 0} (alone : Option (Act B S)) (act : B → Option (Act B S)) (head : Option B) (room : Bool) → is_some (put_by (act_by alone act head room)) ≡ true → room ≡ true
puts_room alone act head room h = room_by room (option_or (option_map untaken alone) (option_and_then act head)) h

pub takes_head : {B S : Type 0} (alone : Option (Act B S)) (act : B → Option (Act B S)) (head : Option B) (room : Bool) → taken_by (act_by alone act head room) ≡ true → is_some head ≡ true
takes_head (Some made) act head room h = absurd (untaken_none _ made h)
takes_head None act None room h = absurd (let x : false ≡ true = h in cc)
takes_head None act (Some beat) room h = refl

put_first : {B : Type 0} (put : Option B) (room : List Bool) (k : ℕ) → (is_some put ≡ true → get_or room 0 false ≡ true) → is_some (get_or (put ∷ []) k None) ≡ true → get_or room k false ≡ true
put_first put room zero f h = f h
put_first put room (suc k) f h = absurd (let x : false ≡ true = h in cc)

take_first : {B : Type 0} (take : Bool) (heads : List (Option B)) (k : ℕ) → (take ≡ true → is_some (get_or heads 0 None) ≡ true) → get_or (take ∷ []) k false ≡ true → is_some (get_or heads k None) ≡ true
take_first take heads zero f h = f h
take_first take heads (suc k) f h = absurd (let x : false ≡ true = h in cc)

pub adapters_guarded : AdaptersAreGuarded
adapters_guarded idle id = record {
  puts_a = λ s x k f h. put_first (put_by (act_a s (id s) x)) x.room_a k (puts_room (down_alone s (id s) 0 0) (down s (id s) 0 0) (get_or x.heads_a 0 None) (get_or x.room_a 0 false)) h;
  takes_a = λ s x k f h. take_first (taken_by (act_a s (id s) x)) x.heads_a k (takes_head (down_alone s (id s) 0 0) (down s (id s) 0 0) (get_or x.heads_a 0 None) (get_or x.room_a 0 false)) h;
  puts_d = λ s x k f h. put_first (put_by (act_d s x)) x.room_d k (puts_room (up_alone s 0 0) (up s 0 0) (get_or x.heads_d 0 None) (get_or x.room_d 0 false)) h;
  takes_d = λ s x k f h. take_first (taken_by (act_d s x)) x.heads_d k (takes_head (up_alone s 0 0) (up s 0 0) (get_or x.heads_d 0 None) (get_or x.room_d 0 false)) h;
}
