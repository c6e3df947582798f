-- An entry of the value where an act is done, seen from the document: its number, and what is said before and after it.
--
-- Theorems: `here_there`: the entry's own value has the number of the values before it; `mentioned_there`: what is
-- mentioned before it, in it and after it; `count_there`: what is mentioned before it has as many values as come before
-- it.
use Rattle.std.proofs.Common.{◌≡◌, ℕ, suc, ◌+◌, Bool, List, [], ◌∷◌, ◌++◌, length, map, slice_get, refl, ap, ◌∙◌}
use Rattle.std.proofs.Common.{append_assoc, length-append, arith, Option, Some}
use Rattle.std.proofs.lemmas.List.{map-append}
use Rattle.keep_types.specs.declared.leaf.Profile.{Profile}
use Rattle.keep_types.specs.declared.syntax.Start.{Start}
use Rattle.keep_types.specs.declared.syntax.ValueInfo.{ValueInfo}
use Rattle.keep_syntax.specs.Tree.{Name, Body, Document}
use Rattle.keep_syntax.specs.Numbered as syntax
use Rattle.keep_syntax.specs.Numbered.{value_start, name_count, nested_of, rest_of, entries_values}
use Rattle.keep_path.specs.Path.{Part}
use Rattle.keep_meaning.specs.Marks.{Mention, below}
use Rattle.keep_meaning.specs.Meaning.{body_fact, entry_mentions, entries_mentions, mentions_in}
use Rattle.keep_meaning.specs.Counts.{one_if}
use Rattle.keep_meaning.proofs.Shared.{valued, valued-append, valued-below}
use Rattle.keep_edit_spec.specs.Changed.{Changed}
use Rattle.keep_edit_spec.specs.Values.{Act}
use Rattle.keep_edit_spec.proofs.Values.ValuePlace.{get_here}
use Rattle.keep_edit_spec.proofs.Insert.FoundThere.{IsFoundThere}
use Rattle.keep_edit_spec.proofs.Insert.EntryPlaces.{IsEntryAt, own_of}

module _ (profile : Profile) (fits : Body → Bool) (act : Act) (rest path : List Part) (s : Document)
    (c : Changed Document) (f : IsFoundThere profile fits act rest path s c) where
  -- where the entries of the value begin
  abbrev pub first_in : Start
  first_in = nested_of f.found.begin f.found.from f.found.keys f.found.value.body

  module _ (P : ℕ → Option Name → Type 0) (z : IsEntryAt P 0 first_in f.found.value.nested) where
    abbrev root : Mention
    root = record { path = []; kind = f.found.mention.kind }

    abbrev pub infos_before : List ValueInfo
    infos_before = f.found.prefix ++ f.found.own ∷ z.prefix

    abbrev pub mentioned_before : List Mention
    mentioned_before = f.found.earlier ++ map (below path) (root ∷ z.earlier)

    abbrev own_mentions : List Mention
    own_mentions = entry_mentions z.number z.name (body_fact z.body) (entries_mentions 0 z.nested)

    -- the values after it
    abbrev infos_after : List ValueInfo
    infos_after =
        (entries_values (nested_of z.begin (value_start z.begin.at z.name) (name_count z.name) z.body) z.nested
        ++ entries_values (rest_of z.begin z.name z.body z.nested z.after z.comma) z.rest) ++ f.found.others

    pub values_there : syntax.values s ≡ infos_before ++ own_of P 0 first_in f.found.value.nested z ∷ infos_after
    values_there =
        f.found.here
        ∙ ap (λ (l : List ValueInfo). f.found.prefix ++ f.found.own ∷ l)
        (f.found.within_values ∙ ap (λ (l : List ValueInfo). l ++ f.found.others) z.values)
        ∙ regroup f.found.prefix z.prefix _ f.found.others f.found.own _
      where
        regroup : (a b c d : List ValueInfo) (m n : ValueInfo)
            → a ++ m ∷ ((b ++ n ∷ c) ++ d) ≡ (a ++ m ∷ b) ++ n ∷ (c ++ d)
        regroup a b c d m n = simp append_assoc refl

    pub here_there : slice_get (syntax.values s) (length infos_before)
        ≡ Some (own_of P 0 first_in f.found.value.nested z)
    here_there =
        ap (λ (l : List ValueInfo). slice_get l (length infos_before)) values_there
        ∙ get_here infos_before (own_of P 0 first_in f.found.value.nested z) infos_after (length infos_before) refl

    pub mentioned_there : mentions_in s ≡ mentioned_before
        ++ (map (below path) own_mentions
        ++ (map (below path) (entries_mentions (z.number + 1) z.rest) ++ f.found.further))
    mentioned_there =
        f.whole
        ∙ ap (λ (l : List Mention). f.found.earlier ++ (map (below path) (root ∷ l) ++ f.found.further)) z.mentioned
        ∙ ap (λ (l : List Mention). f.found.earlier ++ (l ++ f.found.further))
        (map-append (below path) (root ∷ z.earlier) (own_mentions ++ entries_mentions (z.number + 1) z.rest)
        ∙ ap (λ (l : List Mention). map (below path) (root ∷ z.earlier) ++ l)
        (map-append (below path) own_mentions (entries_mentions (z.number + 1) z.rest)))
        ∙ regroup f.found.earlier (map (below path) (root ∷ z.earlier)) (map (below path) own_mentions)
        (map (below path) (entries_mentions (z.number + 1) z.rest)) f.found.further
      where
        regroup : (a b c d e : List Mention) → a ++ ((b ++ (c ++ d)) ++ e) ≡ (a ++ b) ++ (c ++ (d ++ e))
        regroup a b c d e = simp append_assoc refl

    pub count_there : valued mentioned_before ≡ length infos_before
    count_there =
        let one : valued (root ∷ z.earlier) ≡ suc (valued z.earlier) =
        ap (λ b. one_if b + valued z.earlier) f.found.tells ∙ omega arith in
        omega (
          arith,
          valued-append f.found.earlier (map (below path) (root ∷ z.earlier)),
          valued-below path (root ∷ z.earlier),
          one,
          z.count,
          f.found.count,
          length-append f.found.prefix (f.found.own ∷ z.prefix),
        )
