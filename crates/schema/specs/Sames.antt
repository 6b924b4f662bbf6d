-- The test of two sealed contents says yes exactly where they are equal. Assumes nothing.
use Rattle.std.specs.Prelude.{◌≡◌, Decides, refl}
use Rattle.std.proofs.Common.{ap, ap₂}
use Rattle.std.proofs.lemmas.Slice.Eq.{compares_Decides}
use Rattle.std.proofs.lemmas.Bool.Decides.{Decides-and, Decides-like}
use Rattle.model.proofs.Basics.{same_true, same_eq}
use Rattle.model.specs.Bytes.{Bytes, same_bytes}
use Rattle.model.specs.Ids.{same_number}
use Rattle.schema.specs.Meaning.{Sealed, same_sealed}

bytes_decides : (a b : Bytes) → Decides (same_bytes a b) (a ≡ b)
bytes_decides = compares_Decides same_bytes (record { empty = refl; shorter = λ _ _. refl; longer = λ _ _. refl; heads = λ _ _ _ _. refl })

pub sealed_decides : (c d : Sealed) → Decides (same_sealed c d) (c ≡ d)
sealed_decides c d =
    Decides-like (same_sealed c d) (λ e. ap₂ (λ g t. record { text = t; greatest = g }) e.0 e.1) (λ e. (ap (λ (x : Sealed). x.greatest) e, ap (λ (x : Sealed). x.text) e))
    (Decides-and (same_number c.greatest d.greatest) (same_bytes c.text d.text) (same_true c.greatest d.greatest, same_eq c.greatest d.greatest) (bytes_decides c.text d.text))
