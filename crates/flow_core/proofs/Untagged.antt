-- Tags never decide a move.
use Rattle.std.proofs.Common.{◌≡◌, Option, Some, None, refl}
use Rattle.std.specs.Option.{option_map}
use Rattle.tl_edge.specs.declared.beat.Tag.{Tag}
use Rattle.flow_core.specs.Acts.{Act}
use Rattle.flow_core.specs.Leaves.{LeafState, down, down_alone, up, up_alone}
use Rattle.flow_core.specs.Tags.{TagsLaw, untagged, tagged, put_tag, tag_in_hand}

put_bare : {B : Type 0} (tag : Tag) (o : Option B) → option_map (λ (beat : B × Tag). beat.0) (option_map (λ beat. (beat, tag)) o) ≡ o
put_bare tag None = refl
put_bare tag (Some beat) = refl

bare : {B : Type 0} (put held : Tag) (act : Act B LeafState) → untagged (tagged put held act) ≡ act
bare put held act = rw (put_bare put act.put) refl

-- whatever the two tags of an act are made of
every : {B : Type 0} (put : Act B LeafState → Tag) (held : Tag) (o : Option (Act B LeafState))
    → option_map untagged (option_map (λ (act : Act B LeafState). tagged (put act) held act) o) ≡ o
every put held None = refl
every put held (Some act) = rw (bare (put act) held act) refl

pub tags_law : TagsLaw
tags_law = record {
  a = λ h id i o head. every (λ act. put_tag act.next (tag_in_hand h.leaf h.tag head.1) head.1) (tag_in_hand h.leaf h.tag head.1) (down h.leaf id i o head.0);
  a_alone = λ h id i o. every (λ act. put_tag act.next h.tag h.tag) h.tag (down_alone h.leaf id i o);
  d = λ h i o head. every (λ act. head.1) h.tag (up h.leaf i o head.0);
  d_alone = λ h i o. every (λ act. h.tag) h.tag (up_alone h.leaf i o);
}
