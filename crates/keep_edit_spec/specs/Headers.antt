-- What a further header meets, key by key: the first of its marks that a mark of the document refuses.
use Rattle.std.specs.Prelude.{ℕ, Bool, ◌&&◌, ◌==◌, if◌then◌else◌, List, [], ◌∷◌, ◌++◌, Option, Some, None}
use Rattle.std.specs.List.{list_any}
use Rattle.keep_syntax.specs.declared.fault.Why.{Why}
use Rattle.keep_types.specs.declared.role.Role.{Role}
use Rattle.keep_types.specs.declared.role.Role.TheVariants.{Through}
use Rattle.keep_meaning.specs.Faults.{refuses}
use Rattle.keep_meaning.specs.Marks.{elements_of, entered_path}
use Rattle.keep_meaning.specs.Rules.{Mark, why_of}
use Rattle.keep_path.specs.Path.{Part, key}

-- some mark at the path does not let one of this role follow
abbrev pub is_refused : List Mark → Role → List Part → Bool
is_refused earlier role path = list_any (refuses (record { role = role; path = path })) earlier

-- From a path on, with these keys to go. The last key's mark has this role; each before it continues to the last
-- element of an array of tables, or marks its path as one that a header goes through.
abbrev pub header_conflict : List Mark → List (List Part) → List Part → List (List ℕ) → Role → Option Why
header_conflict earlier tables at [] role = None
header_conflict earlier tables at (k ∷ []) role =
    if is_refused earlier role (at ++ key k ∷ []) then Some (why_of role) else None
header_conflict earlier tables at (k ∷ l ∷ ks) role =
    if 0 == elements_of (at ++ key k ∷ []) tables && is_refused earlier Through (at ++ key k ∷ [])
    then Some (why_of Through)
    else header_conflict earlier tables (entered_path tables (at ++ key k ∷ [])) (l ∷ ks) role
