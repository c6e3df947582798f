-- A key by its parts but the last, and the last: the mentions of the former, and the path to which they lead.
use Rattle.std.specs.Prelude.{ℕ, List, [], ◌∷◌, ◌++◌}
use Rattle.keep_path.specs.Path.{Part, key}
use Rattle.keep_meaning.specs.Marks.{Mention, dotted, passing_mentions, entered_path}

-- the path to which a header's keys but the last lead, from a path on
abbrev pub descent_path : List (List Part) → List Part → List (List ℕ) → List Part
descent_path tables at [] = at
descent_path tables at (k ∷ ks) = descent_path tables (entered_path tables (at ++ key k ∷ [])) ks

-- the mentions of a header's keys but the last
abbrev pub descent_mentions : List (List Part) → List Part → List (List ℕ) → List Mention
descent_mentions tables at [] = []
descent_mentions tables at (k ∷ ks) =
    passing_mentions tables (at ++ key k ∷ []) ++ descent_mentions tables (entered_path tables (at ++ key k ∷ [])) ks

-- the mentions of a keyval's keys but the last
abbrev pub dotted_mentions : List Part → List (List ℕ) → List Mention
dotted_mentions at [] = []
dotted_mentions at (k ∷ ks) = record { path = at ++ key k ∷ []; kind = dotted } ∷ dotted_mentions (at ++ key k ∷ []) ks
