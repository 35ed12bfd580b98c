-- The standard kinds, whose rules state the same.
use Rattle.std.proofs.Common.{◌≡◌, ◌∙◌, ap}
use Rattle.tl_params.specs.declared.ports.DownPort.{DownPort}
use Rattle.tl_params.specs.declared.ports.UpPort.{UpPort}
use Rattle.dip_rule.specs.Stated.{StatedAnswer}
use Rattle.tl_rules.specs.Standard.{Sides, sides, kinds_by}

pub same_sides : {d d' : StatedAnswer DownPort} {u u' : StatedAnswer UpPort} → d ≡ d' → u ≡ u' → sides d u ≡ sides d' u'
same_sides {d} {d'} {u} {u'} p q = ap (λ down. sides down u) p ∙ ap (λ up. sides d' up) q

pub same_kinds : {b b' w w' f f' s s' x x' : Sides} → b ≡ b' → w ≡ w' → f ≡ f' → s ≡ s' → x ≡ x' → kinds_by b w f s x ≡ kinds_by b' w' f' s' x'
same_kinds {b} {b'} {w} {w'} {f} {f'} {s} {s'} {x} {x'} p q r t v =
    ap (λ k. kinds_by k w f s x) p ∙ ap (λ k. kinds_by b' k f s x) q ∙ ap (λ k. kinds_by b' w' k s x) r ∙ ap (λ k. kinds_by b' w' f' k x) t ∙ ap (λ k. kinds_by b' w' f' s' k) v
