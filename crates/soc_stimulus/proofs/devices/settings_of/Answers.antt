use Rattle.std.proofs.Common.{◌∙◌, ◌++◌, ◌∷◌, [], ap, sym, arith}
use Rattle.std.proofs.lemmas.List.FromFn.{map-range_with_len_more}
use Rattle.soc_stimulus.specs.Settings.{setting_for, settings_of}
use Rattle.soc_stimulus.proofs.devices.settings_of.Goals as goal

pub loop-port-preserved : goal.loop-port-preserved
loop-port-preserved c =
    let devices = c.args.devices.now in
    let port = c.loop-port.port in
    c.in_ok-push.ensures.ok
    ∙ ap (λ settings. settings ++ c.setting_for.result ∷ []) c.loop-port.invariant
    ∙ ap (λ setting. settings_of devices port ++ setting ∷ []) c.setting_for.ensures
    ∙ sym (map-range_with_len_more (setting_for devices) 0 port port (omega arith))
