-- A header and a table whose path is of keys alone: the header's keys lead elsewhere, or are those of the path, or go
-- through the table.
--
-- Where they begin with the path, what is left of them are keys, too: none, or some (`goes_on`). A path that a header's
-- keys begin with is of keys alone, so it is if they go through its table (`keys_alone`).
--
-- Theorems: `through_or_not`, `keys_alone`.
use Rattle.std.proofs.Common.{◌≡◌, ◌⊎◌, ℕ, List, [], ◌∷◌, ◌++◌, length, map, refl, sym, ap, ◌∙◌, Option, Some, None}
use Rattle.std.proofs.Common.{inl, inr, arith, length-append}
use Rattle.std.proofs.lemmas.List.{append-nil, map-append}
use Rattle.keep_path.specs.Path.{Part, key, strip}
use Rattle.keep_edit_spec.specs.HeadersBelow.{GoThrough}
use Rattle.keep_edit_spec.specs.Look.{keys_in}
use Rattle.keep_edit_spec.specs.Runs.{PassesBy}
use Rattle.keep_edit_spec.proofs.Common.Runs.{strip-sound}
use Rattle.keep_edit_spec.proofs.Insert.NewPath.{keys_of_map}
use Rattle.keep_edit_spec.proofs.Lists.HeaderOpens.{AreFirst, are_first}

goes_on : (keys : List (List ℕ)) (table : List Part) (p : Part) (ps : List Part) → map key keys ≡ table ++ p ∷ ps
    → GoThrough keys table
goes_on keys table p ps e = by f.first f.rest f.all f.is
  where
    f : AreFirst keys table
    f = are_first keys table (p ∷ ps) e

    by : (first rest : List (List ℕ)) → keys ≡ first ++ rest → table ≡ map key first → GoThrough keys table
    by first [] all is =
        let whole : map key keys ≡ table = ap (map key) (all ∙ append-nil first) ∙ sym is in
        absurd (omega (
          arith,
          ap (λ (q : List Part). length q) (sym e ∙ whole),
          length-append table (p ∷ ps),
        ))
    by first (k ∷ ks) all is = (
      k,
      (
        ks,
        ap (map key) all ∙ map-append key first (k ∷ ks)
            ∙ ap (λ (q : List Part). q ++ map key (k ∷ ks)) (sym is),
      ),
    )

pub through_or_not : (keys : List (List ℕ)) (table : List Part) → map key (keys_in table) ≡ table
    → PassesBy keys table ⊎ ((map key keys ≡ table) ⊎ GoThrough keys table)
through_or_not keys table alone = by (strip table (map key keys)) refl
  where
    by : (o : Option (List Part)) → strip table (map key keys) ≡ o
        → PassesBy keys table ⊎ ((map key keys ≡ table) ⊎ GoThrough keys table)
    by None e = inl (ap (λ (q : List Part). strip q (map key keys)) alone ∙ e)
    by (Some []) e = inr (inl (strip-sound table (map key keys) [] e ∙ append-nil table))
    by (Some (p ∷ ps)) e = inr (inr (goes_on keys table p ps (strip-sound table (map key keys) (p ∷ ps) e)))

-- the path of a table through which keys go is of keys alone
pub keys_alone : (keys : List (List ℕ)) (table : List Part) → GoThrough keys table → map key (keys_in table) ≡ table
keys_alone keys table (k, (ks, e)) =
    let f : AreFirst keys table = are_first keys table (map key (k ∷ ks)) e in
    ap (λ (q : List Part). map key (keys_in q)) f.is ∙ ap (map key) (keys_of_map f.first) ∙ sym f.is
