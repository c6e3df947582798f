-- Two paths are equal exactly if `same_path` is true of them, and two parts exactly if `same_part` is.
--
-- Theorems: `path_decides`: of paths; `part_decides`: of parts.
use Rattle.std.proofs.Common.{◌≡◌, List, refl, ap}
use Rattle.std.specs.Bool.{Decides}
use Rattle.std.proofs.lemmas.Bool.Decides.{Decides-eqb}
use Rattle.std.proofs.lemmas.Slice.Eq.{slice_eq-Decides, bytes_eq-Decides}
use Rattle.keep_path.specs.Path.{Part, key, index, same_part, same_path}

pub part_decides : (p q : Part) → Decides (same_part p q) (p ≡ q)
part_decides (key a) (key b) =
    (λ h. ap key ((bytes_eq-Decides a b).0 h), λ h. (bytes_eq-Decides a b).1 (let e : a ≡ b = cc in e))
part_decides (index m) (index n) =
    (λ h. ap index ((Decides-eqb m n).0 h), λ h. (Decides-eqb m n).1 (let e : m ≡ n = cc in e))
part_decides (key a) (index n) = (λ h. cc, λ h. cc)
part_decides (index m) (key b) = (λ h. cc, λ h. cc)

pub path_decides : (p q : List Part) → Decides (same_path p q) (p ≡ q)
path_decides p q = slice_eq-Decides part_decides p q (same_path p q) refl
