-- The header that an insert brings: its path, and through which tables it goes.
--
-- Its keys are those of the table's path, and it comes where the reading is as after the last header that goes through
-- the table. There these keys lead to the table again (`path_is`), by the way that this last header went (`way_said`).
-- So it goes through no table that the last header does not go through (`goes_before`), and says nothing on its way
-- that was not said before (`way_doubles`).
--
-- Theorems: `reading_there`, `section`, `own_keys`, `own_path`, `path_is`; `goes_before`, `way_doubles`, `table_goes`.
use Rattle.std.proofs.Common.{◌≡◌, ℕ, Bool, true, ◌&&◌, List, [], ◌∷◌, ◌++◌, map, take, sym, ap, ap₂, subst, ◌∙◌, ◌⊎◌}
use Rattle.std.proofs.Common.{inl, inr}
use Rattle.std.proofs.lemmas.List.Elements.{filter_map-append}
use Rattle.keep_types.specs.declared.leaf.Profile.{Profile}
use Rattle.keep_syntax.specs.Tree.{Value, Line, Document}
use Rattle.keep_path.specs.Path.{Part, key}
use Rattle.keep_meaning.specs.Marks.{Mention, Reading, define, header_path, header_prefixes, start}
use Rattle.keep_meaning.specs.Meaning.{keys_of, line_mentions, lines, lines_mentions, mentions_in, reading_after_lines}
use Rattle.keep_meaning.specs.Nodes.{is_through}
use Rattle.keep_edit_spec.specs.BroughtHeaders.{BringsHeader}
use Rattle.keep_edit_spec.specs.Edits.{key_with, new_header}
use Rattle.keep_edit_spec.specs.Laws.{IsEditable}
use Rattle.keep_edit_spec.specs.Lines.{leads_through, plain_line}
use Rattle.keep_edit_spec.specs.Look.{holder, key_text, keys_in}
use Rattle.keep_edit_spec.specs.TextChanges.{TextChange}
use Rattle.keep_edit_spec.proofs.Common.BodyEnd.{IsLast}
use Rattle.keep_edit_spec.proofs.Common.Doubles.{IsDoubleOf, IsMentioned, has_some, some_has}
use Rattle.keep_edit_spec.proofs.Common.LineLaws.{lines_mentions-append}
use Rattle.keep_edit_spec.proofs.Common.Marks.{rules_of_document}
use Rattle.keep_edit_spec.proofs.Common.NewLines.{IsKeyText, key_means}
use Rattle.keep_edit_spec.proofs.Common.Runs.{AllOf, SomeOf, all_left, some_left, some_right}
use Rattle.keep_edit_spec.proofs.Common.ValueThere.{some_cases}
use Rattle.keep_edit_spec.proofs.Insert.HeaderPrefixes.{path_keys}
use Rattle.keep_edit_spec.proofs.Insert.InsertSection.{no_body}
use Rattle.keep_edit_spec.proofs.Insert.SectionPlace.{IsSection, IsWayOf, section_at, way_of}
use Rattle.keep_edit_spec.proofs.Rename.KeyTexts.{key_texts}
use Rattle.keep_edit_spec.proofs.Lists.BroughtLines as brought
use Rattle.keep_edit_spec.proofs.Lists.BroughtLines.{first_lines, head, last, reading_is}

module _ (profile : Profile) (limit : ℕ) (s : Document) (path : List Part) (value : Value) (c : TextChange)
    (fine : IsEditable profile limit s) (h : BringsHeader profile limit s path value c) where
  abbrev a : List Part
  a = holder path (mentions_in s)

  abbrev n : ℕ
  n = brought.n profile limit s path value c h

  abbrev keys : List (List ℕ)
  keys = h.text ∷ h.more

  -- before and after the line of the last header that goes through the table
  abbrev at : Reading
  at = brought.at profile limit s path value c h

  abbrev r : Reading
  r = brought.r profile limit s path value c h

  abbrev here : Line
  here = (last profile limit s path value c h).here

  pub reading_there : reading_after_lines start (take n (lines s)) ≡ r
  reading_there =
      ap (reading_after_lines start) (first_lines profile limit s path value c h)
      ∙ reading_is profile limit s path value c h

  -- ---- the keys of the header

  pub section : IsSection s a n
  section =
      section_at s a h.number (rules_of_document s fine.obeys) (no_body s a h.bare).1 h.no_dots h.last

  abbrev pub heads : List (List ℕ)
  heads = section.first ∷ section.prefix

  head_texts : AllOf (IsKeyText profile) heads
  head_texts =
      all_left (IsKeyText profile) heads (keys_in (map key keys))
      (subst (AllOf (IsKeyText profile))
      (ap keys_in h.new ∙ filter_map-append key_text a (map key keys)
      ∙ ap (λ (l : List (List ℕ)). l ++ keys_in (map key keys)) section.keys)
      (key_texts profile (keys_in path) h.utf8))

  pub own_keys : keys_of (key_with (keys_in a)) ≡ heads
  own_keys =
      ap (λ (l : List (List ℕ)). keys_of (key_with l)) section.keys
      ∙ key_means profile section.first section.prefix head_texts

  pub own_path : header_path r.tables [] heads ≡ a
  own_path = ap (λ (x : Reading). header_path x.tables [] heads) (sym reading_there) ∙ section.place.path

  pub path_is : header_path r.tables [] (keys_of (key_with (keys_in a))) ≡ a
  path_is = ap (header_path r.tables []) own_keys ∙ own_path

  -- ---- the header's way

  abbrev pub doubles : List Mention
  doubles = header_prefixes r.tables [] heads

  way : IsWayOf a at here
  way = way_of a at here (last profile limit s path value c h).passes

  same_keys : heads ≡ way.first ∷ way.prefix
  same_keys = sym section.keys ∙ ap keys_in way.path ∙ path_keys at.tables [] way.first way.prefix

  way_said : line_mentions at here ≡ doubles ++ way.others
  way_said =
      way.said
      ∙ ap (λ (l : List Mention). l ++ way.others)
      (sym (ap (header_prefixes r.tables []) same_keys ∙ way.way_later))

  -- the last header goes through the tables that the new one goes through
  pub goes_before : (b : List Part) → leads_through b r (plain_line (new_header (keys_in a))) ≡ true
      → leads_through b at here ≡ true
  goes_before b goes =
      let own_goes : SomeOf (IsMentioned is_through b) (doubles ++ own_at (header_path r.tables [] heads) ∷ []) =
      subst (λ (ks : List (List ℕ)).
      SomeOf (IsMentioned is_through b) (header_prefixes r.tables [] ks ++ own_at (header_path r.tables [] ks) ∷ []))
      own_keys (has_some is_through b (line_mentions r (plain_line (new_header (keys_in a)))) goes) in
      ap₂ (λ (x y : Bool). x && y) (head profile limit s path value c h)
      (some_has is_through b (line_mentions at here)
      (subst (SomeOf (IsMentioned is_through b)) (sym way_said)
      (some_left (IsMentioned is_through b) doubles way.others
      (in_way b (header_path r.tables [] heads)
      (some_cases (IsMentioned is_through b) doubles (own_at (header_path r.tables [] heads) ∷ []) own_goes)))))
    where
      own_at : List Part → Mention
      own_at p = record { path = p; kind = define }

      in_way : (b p : List Part) → SomeOf (IsMentioned is_through b) doubles
          ⊎ SomeOf (IsMentioned is_through b) (own_at p ∷ [])
          → SomeOf (IsMentioned is_through b) doubles
      in_way b p (inl some) = some
      in_way b p (inr (inl x)) = let no : is_through define ≡ true = x.1 in absurd cc
      in_way b p (inr (inr none)) = absurd none

  abbrev early : List Mention
  early = lines_mentions start (take n (lines s))

  pub way_doubles : AllOf (IsDoubleOf early) doubles
  way_doubles =
      subst (λ (x : Reading). AllOf (IsDoubleOf early) (header_prefixes x.tables [] heads)) reading_there
      section.place.doubles

  -- before the new lines a header goes through the table
  pub table_goes : SomeOf (IsMentioned is_through a) early
  table_goes =
      let found : IsLast (leads_through a) start (lines s) h.number = last profile limit s path value c h in
      let body : List Line = brought.body profile limit s path value c h in
      subst (λ (ls : List Line). SomeOf (IsMentioned is_through a) (lines_mentions start ls))
      (sym (first_lines profile limit s path value c h))
      (subst (SomeOf (IsMentioned is_through a)) (sym (lines_mentions-append start found.pre (here ∷ body)))
      (some_right (IsMentioned is_through a) (lines_mentions start found.pre) _
      (some_left (IsMentioned is_through a) (line_mentions at here) _ way.goes)))
