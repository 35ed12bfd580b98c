-- The calls on what is in memory: which are to fail, and how they are counted.
use Rattle.std.specs.Prelude.{ℕ, ◌+◌, ◌-◌, ◌^◌, [], ◌∷◌, ◌++◌, min}
use Rattle.std.specs.List.{Contains}
use Rattle.dip_io.specs.declared.calls.Calls.{Calls}

-- a count raised by one, which at a counter's last value stays there
abbrev pub raised : ℕ → ℕ
raised count = min (count + 1) (2 ^ 64 - 1)

-- no call made, and none that is to fail
abbrev pub no_calls : Calls
no_calls = record { failing = []; made = 0; failed = 0 }

-- the call with this number is to fail too
abbrev pub failing_at : ℕ → Calls → Calls
failing_at call calls = record calls { failing = calls.failing ++ call ∷ [] }

-- the number of the next call is one of those that are to fail
abbrev pub FailsNext : Calls → Type 0
FailsNext calls = Contains calls.failing (raised calls.made)

-- after one more call, which has not failed
abbrev pub after_call : Calls → Calls
after_call calls = record calls { made = raised calls.made }

-- after one more call, which has failed
abbrev pub after_fault : Calls → Calls
after_fault calls = record calls { made = raised calls.made; failed = raised calls.failed }
