-- Only the last entry of the log counts. Assumes nothing.
use Rattle.std.proofs.Common.{◌≡◌, ℕ, suc, ◌-◌, ◌≤◌, List, [], ◌∷◌, map, length, get_or, ℤ, pos, ◌+ℤ◌, refl, ap, ◌∙◌, arith}
use lib.Signed.{lt_z}
use Rattle.model.specs.Edits.{too_early_for}
use Rattle.version.specs.Meaning.{entry_of}
use Rattle.version.specs.declared.view_version.ViewVersionLog.{ViewVersionLog}

-- the default that reads of a log are written with
abbrev pub no_entry : ViewVersionLog
no_entry = record { version_id = pos 0; timestamp_ms = pos 0 }

pub early_last : (time : ℤ) (log : List ViewVersionLog) → 1 ≤ length log → lt_z (time +ℤ pos 60000) (get_or log (length log - 1) no_entry).timestamp_ms ≡ too_early_for time (map entry_of log)
early_last time [] h = absurd (omega arith)
early_last time (e ∷ []) h = refl
early_last time (e ∷ f ∷ log) h =
    ap (λ n. lt_z (time +ℤ pos 60000) (get_or (e ∷ f ∷ log) n no_entry).timestamp_ms) (index (length log))
    ∙ early_last time (f ∷ log) (omega arith)
  where
    index : (n : ℕ) → suc (suc n) - 1 ≡ suc (suc n - 1)
    index n = omega arith
