-- The acts of a width adapter, by whether it widens, the head has data and its narrow beat ends the wide one.
use Rattle.std.proofs.Common.{◌≡◌, ℕ, Bool, true, false, not, ◌&&◌, ◌||◌, cond, Option, Some, None, refl, if◌then◌else◌}
use Rattle.std.specs.Prelude.{◌==◌, ◌%◌, slice_set}
use Rattle.tl_edge.specs.declared.beat.ABeat.{ABeat}
use Rattle.tl_edge.specs.declared.beat.DBeat.{DBeat}
use Rattle.tl_edge.specs.Beats.{most_lanes}
use Rattle.flow_core.specs.Acts.{Act, forwards, with_a_lanes, with_d_lanes}
use Rattle.flow_core.specs.Turning.{Lanes, Side, Widget, data_down, data_up, kept_after, narrows, widens}
use Rattle.net_queue.specs.Adapters.{put_by, state_by, taken_by, with_room}
use Rattle.net_turns.specs.Turns.{held_after, made_where, put_where, taken_where}

abbrev pub lanes_act : Bool → Bool → ℕ → Side → ℕ → ℕ → Act Lanes Side
lanes_act turns ends next side m p = cond turns (widens ends next (record { mask = m; payload = p })) (narrows ends next side (record { mask = m; payload = p }))

-- on a head of channel A
abbrev pub act_down : Bool → Bool → Bool → ℕ → Widget → ABeat → ℕ → ℕ → ℕ → Act ABeat Widget
act_down turns loaded ends next widget beat m p active =
    cond loaded (data_down widget beat (lanes_act turns ends next widget.a m p))
    (forwards (with_a_lanes active 0 beat) (record { kept = kept_after true widget.kept beat; a = widget.a; d = widget.d }))

pub record DownFacts (turns loaded ends room : Bool) (next : ℕ) (widget : Widget) (beat : ABeat) (m p active : ℕ) (made : Option (Act ABeat Widget)) : Type 0 where
  pub taken : taken_by made ≡ taken_where turns true room (not loaded || ends)
  pub put : put_by made ≡ cond (put_where turns true room (not loaded || ends)) (Some (with_a_lanes (if loaded then m else active) (if loaded then p else 0) beat)) None
  pub kept : (state_by widget made).kept ≡ (if made_where turns true room (not loaded || ends) && (not loaded || (widget.a.done == 0)) then slice_set widget.kept beat.source (Some (beat.address % most_lanes)) else widget.kept)
  pub d : (state_by widget made).d ≡ widget.d
  pub done : (state_by widget made).a.done ≡ (if made_where turns true room (not loaded || ends) && loaded then next else widget.a.done)
  pub mask : (state_by widget made).a.mask ≡ held_after turns (made_where turns true room (not loaded || ends) && loaded) ends widget.a.mask m
  pub payload : (state_by widget made).a.payload ≡ held_after turns (made_where turns true room (not loaded || ends) && loaded) ends widget.a.payload p

pub down_facts : (turns loaded ends room : Bool) (next : ℕ) (widget : Widget) (beat : ABeat) (m p active : ℕ) → DownFacts turns loaded ends room next widget beat m p active (with_room room (act_down turns loaded ends next widget beat m p active))
down_facts true true true true next widget beat m p active = record { taken = refl; put = refl; kept = refl; d = refl; done = refl; mask = refl; payload = refl }
down_facts true true true false next widget beat m p active = record { taken = refl; put = refl; kept = refl; d = refl; done = refl; mask = refl; payload = refl }
down_facts true true false true next widget beat m p active = record { taken = refl; put = refl; kept = refl; d = refl; done = refl; mask = refl; payload = refl }
down_facts true true false false next widget beat m p active = record { taken = refl; put = refl; kept = refl; d = refl; done = refl; mask = refl; payload = refl }
down_facts true false true true next widget beat m p active = record { taken = refl; put = refl; kept = refl; d = refl; done = refl; mask = refl; payload = refl }
down_facts true false true false next widget beat m p active = record { taken = refl; put = refl; kept = refl; d = refl; done = refl; mask = refl; payload = refl }
down_facts true false false true next widget beat m p active = record { taken = refl; put = refl; kept = refl; d = refl; done = refl; mask = refl; payload = refl }
down_facts true false false false next widget beat m p active = record { taken = refl; put = refl; kept = refl; d = refl; done = refl; mask = refl; payload = refl }
down_facts false true true true next widget beat m p active = record { taken = refl; put = refl; kept = refl; d = refl; done = refl; mask = refl; payload = refl }
down_facts false true true false next widget beat m p active = record { taken = refl; put = refl; kept = refl; d = refl; done = refl; mask = refl; payload = refl }
down_facts false true false true next widget beat m p active = record { taken = refl; put = refl; kept = refl; d = refl; done = refl; mask = refl; payload = refl }
down_facts false true false false next widget beat m p active = record { taken = refl; put = refl; kept = refl; d = refl; done = refl; mask = refl; payload = refl }
down_facts false false true true next widget beat m p active = record { taken = refl; put = refl; kept = refl; d = refl; done = refl; mask = refl; payload = refl }
down_facts false false true false next widget beat m p active = record { taken = refl; put = refl; kept = refl; d = refl; done = refl; mask = refl; payload = refl }
down_facts false false false true next widget beat m p active = record { taken = refl; put = refl; kept = refl; d = refl; done = refl; mask = refl; payload = refl }
down_facts false false false false next widget beat m p active = record { taken = refl; put = refl; kept = refl; d = refl; done = refl; mask = refl; payload = refl }

-- on a head of channel D
abbrev pub act_up : Bool → Bool → Bool → ℕ → Widget → DBeat → ℕ → ℕ → Act DBeat Widget
act_up turns loaded ends next widget beat m p =
    cond loaded (data_up widget beat (lanes_act turns ends next widget.d m p)) (forwards (with_d_lanes 0 beat) widget)

pub record UpFacts (turns loaded ends room : Bool) (next : ℕ) (widget : Widget) (beat : DBeat) (m p : ℕ) (made : Option (Act DBeat Widget)) : Type 0 where
  pub taken : taken_by made ≡ taken_where turns true room (not loaded || ends)
  pub put : put_by made ≡ cond (put_where turns true room (not loaded || ends)) (Some (with_d_lanes (if loaded then p else 0) beat)) None
  pub kept : (state_by widget made).kept ≡ widget.kept
  pub a : (state_by widget made).a ≡ widget.a
  pub done : (state_by widget made).d.done ≡ (if made_where turns true room (not loaded || ends) && loaded then next else widget.d.done)
  pub payload : (state_by widget made).d.payload ≡ held_after turns (made_where turns true room (not loaded || ends) && loaded) ends widget.d.payload p

pub up_facts : (turns loaded ends room : Bool) (next : ℕ) (widget : Widget) (beat : DBeat) (m p : ℕ) → UpFacts turns loaded ends room next widget beat m p (with_room room (act_up turns loaded ends next widget beat m p))
up_facts true true true true next widget beat m p = record { taken = refl; put = refl; kept = refl; a = refl; done = refl; payload = refl }
up_facts true true true false next widget beat m p = record { taken = refl; put = refl; kept = refl; a = refl; done = refl; payload = refl }
up_facts true true false true next widget beat m p = record { taken = refl; put = refl; kept = refl; a = refl; done = refl; payload = refl }
up_facts true true false false next widget beat m p = record { taken = refl; put = refl; kept = refl; a = refl; done = refl; payload = refl }
up_facts true false true true next widget beat m p = record { taken = refl; put = refl; kept = refl; a = refl; done = refl; payload = refl }
up_facts true false true false next widget beat m p = record { taken = refl; put = refl; kept = refl; a = refl; done = refl; payload = refl }
up_facts true false false true next widget beat m p = record { taken = refl; put = refl; kept = refl; a = refl; done = refl; payload = refl }
up_facts true false false false next widget beat m p = record { taken = refl; put = refl; kept = refl; a = refl; done = refl; payload = refl }
up_facts false true true true next widget beat m p = record { taken = refl; put = refl; kept = refl; a = refl; done = refl; payload = refl }
up_facts false true true false next widget beat m p = record { taken = refl; put = refl; kept = refl; a = refl; done = refl; payload = refl }
up_facts false true false true next widget beat m p = record { taken = refl; put = refl; kept = refl; a = refl; done = refl; payload = refl }
up_facts false true false false next widget beat m p = record { taken = refl; put = refl; kept = refl; a = refl; done = refl; payload = refl }
up_facts false false true true next widget beat m p = record { taken = refl; put = refl; kept = refl; a = refl; done = refl; payload = refl }
up_facts false false true false next widget beat m p = record { taken = refl; put = refl; kept = refl; a = refl; done = refl; payload = refl }
up_facts false false false true next widget beat m p = record { taken = refl; put = refl; kept = refl; a = refl; done = refl; payload = refl }
up_facts false false false false next widget beat m p = record { taken = refl; put = refl; kept = refl; a = refl; done = refl; payload = refl }
