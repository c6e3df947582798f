-- The lines of a document where a key is renamed, as they are read for another path.
--
-- One line is changed, and each is read as before with the paths changed. The other path begins with neither the
-- renamed path nor the new one. So a body that is at or under the renamed path was none of a prefix of the other path,
-- and is none now; any other body stays (`Agrees`, `moved_agrees`). The line with the key says nothing of the other
-- path before and after (`IsHidden`), and leads through it by its own key if it did (`leads_kept`); or the key is in a
-- keyval's value, and the reading stays (`IsLineRead`).
-- `PageRead` says all that of the lines one by one, in the order of the search for the key: of a header's or a keyval's
-- own key by `key_reads`, as in RenameLines, and of one in braces by `value_reads`.
--
-- Theorems: `agrees_strip`, `agrees_path`: what a body's paths have in common; `lines_same`: what is
-- done in lines that are read so; `renamed_page`: the document.
use Rattle.std.proofs.Common.{◌≡◌, ℕ, Bool, true, false, List, [], ◌∷◌, ◌++◌, map, refl, sym, ap, ap₂, subst, ◌∙◌}
use Rattle.std.proofs.Common.{arith, IsUtf8, Option, Some, None, inl, inr}
use Rattle.std.specs.Prelude.{⊤, ◌⊎◌, codes, position}
use Rattle.std.specs.List.{list_any}
use Rattle.std.proofs.lemmas.List.{append-nil}
use Rattle.keep_types.specs.declared.leaf.Profile.{Profile}
use Rattle.keep_syntax.specs.Tree.{Name, Value, Content, blank, keyval, header, element, Line, Ended, Document}
use Rattle.keep_syntax.specs.Tree.{bom_leaves, comment_leaves, ended_leaves, name_leaves, text_of, Key}
use Rattle.keep_path.specs.Path.{Part, beside, moved_path, same_path}
use Rattle.keep_meaning.specs.Marks.{Mention, MentionKind, Reading, below, start}
use Rattle.keep_meaning.specs.Meaning.{after_line, keyed_mentions, keys_of, line_mentions, line_of, lines_mentions}
use Rattle.keep_meaning.specs.Meaning.{mentions_in, step}
use Rattle.keep_meaning.specs.Nodes.{has, is_at, is_dotted, kinds_at}
use Rattle.keep_edit_spec.specs.Look.{strip}
use Rattle.keep_edit_spec.specs.Changed.{Changed, IsChangeOf, framed_change, within, or_else}
use Rattle.keep_edit_spec.specs.Values.{in_value, rename_name, rename_part, renaming, text_of_value}
use Rattle.keep_edit_spec.specs.Lines.{Page, in_content, in_document, in_line, in_lines, line_text, page_text}
use Rattle.keep_edit_spec.specs.Lines.{leads_dotted, part_paths, plain_line, rename_content, rename_line, with_page}
use Rattle.keep_edit_spec.specs.Edits.{change, key_part, nested, rename}
use Rattle.keep_edit_spec.specs.Laws.{IsEditable}
use Rattle.keep_edit_spec.specs.Refusals.{refusal}
use Rattle.keep_edit_spec.proofs.Common.DoneAtValue.{EachOf, of_or_else, of_within}
use Rattle.keep_edit_spec.proofs.Common.LineTexts.{in_line-is, rename_line-is}
use Rattle.keep_edit_spec.proofs.Common.Marks.{rules_of_document}
use Rattle.keep_edit_spec.proofs.Common.Moves.{moved}
use Rattle.keep_edit_spec.proofs.Common.NewLines.{IsKeyText}
use Rattle.keep_edit_spec.proofs.Common.Runs.{AllOf, IsDisjoint, SomeOf, all_left, all_right, none_or_some}
use Rattle.keep_edit_spec.proofs.Common.Runs.{same_path-sound, some_left, some_right, strip-append, strip-sound}
use Rattle.keep_edit_spec.proofs.Common.SetDocument.{page_lines}
use Rattle.keep_edit_spec.proofs.Common.SetLaw.{EachTo, IsSolidAt, to_within}
use Rattle.keep_edit_spec.proofs.Common.Texts.{EachIs, renaming-is}
use Rattle.keep_edit_spec.proofs.Lists.RenameStays.{longer_none, new_apart, own_apart}
use Rattle.keep_edit_spec.proofs.Rename.KeyTexts.{key_text}
use Rattle.keep_edit_spec.proofs.Rename.RenameContent.{content_preserved, moved_reading, root_renamed}
use Rattle.keep_edit_spec.proofs.Rename.RenameKey.{IsNameRenamed, name_renamed}
use Rattle.keep_edit_spec.proofs.Rename.RenameLines.{AreLinesRenamed, IsLineRenamed, clear_content, line_renamed}
use Rattle.keep_edit_spec.proofs.Rename.RenameLines.{lines_renamed}
use Rattle.keep_edit_spec.proofs.Rename.RenameNodes.{nodes_renamed}
use Rattle.keep_edit_spec.proofs.Rename.RenameOnce.{Once, once_after, once_counted, once_right}
use Rattle.keep_edit_spec.proofs.Rename.RenameWhole.{IsRenamable, beside_is, renamable}
use Rattle.keep_edit_spec.proofs.Rename.RenamedKeys.{AreClear, AreRenamed}
use Rattle.keep_edit_spec.proofs.Rename.RenamedParts.{IsPart, keyed_renamed, keys_renamed, keyval_position}
use Rattle.keep_edit_spec.proofs.Rename.RenamedParts.{part_reaches, replaced_key}
use Rattle.keep_edit_spec.proofs.Rename.RenamedPath.{IsBeside, disjoint_renamed, ends_old, under_renamed}

-- ---- a body, for the other path

-- it stays, or neither the old one nor the new one is a prefix of the other path
pub data Agrees (other q q' : List Part) : Type 0 where
  same : q' ≡ q → Agrees other q q'
  apart : strip q other ≡ None → strip q' other ≡ None → Agrees other q q'

pub agrees_strip : (other q q' x : List Part) → Agrees other q q' → strip (q' ++ x) other ≡ strip (q ++ x) other
agrees_strip other q q' x (same e) = ap (λ (p : List Part). strip (p ++ x) other) e
agrees_strip other q q' x (apart h h') = longer_none q' x other h' ∙ sym (longer_none q x other h)

pub none_path : (q other : List Part) → strip q other ≡ None → same_path q other ≡ false
none_path q other h = by (same_path q other) refl
  where
    by : (b : Bool) → same_path q other ≡ b → b ≡ false
    by false e = refl
    by true e =
        let is : q ++ [] ≡ other = append-nil q ∙ same_path-sound q other e in
        let k : None ≡ Some [] = sym h ∙ ap (strip q) (sym is) ∙ strip-append q [] in
        absurd cc

pub agrees_path : (other q q' x : List Part) → Agrees other q q' → same_path (q' ++ x) other ≡ same_path (q ++ x) other
agrees_path other q q' x (same e) = ap (λ (p : List Part). same_path (p ++ x) other) e
agrees_path other q q' x (apart h h') =
    none_path (q' ++ x) other (longer_none q' x other h') ∙ sym (none_path (q ++ x) other (longer_none q x other h))

moved_agrees : (p b other q : List Part) → strip p other ≡ None → strip b other ≡ None
    → Agrees other q (moved_path p b q)
moved_agrees p b other q h g = elim (none_or_some (strip p q)) [
  | inl e ↦ same (disjoint_renamed p b q e)
  | inr u ↦ apart
      (ap (λ (x : List Part). strip x other) (strip-sound p q u.0 u.1) ∙ longer_none p u.0 other h)
      (ap (λ (x : List Part). strip x other) (under_renamed p b q u.0 u.1) ∙ longer_none b u.0 other g)
]

-- ---- a line, for the other path

-- a keyval's own path is no prefix of the other path
abbrev pub IsHidden : List Part → List Part → Content → Type 0
IsHidden other body blank = ⊤
IsHidden other body (keyval name value) = strip (body ++ step 0 (Some name)) other ≡ None
IsHidden other body (header before k after) = ⊤
IsHidden other body (element before k after) = ⊤

-- a line with a renamed key of its own
pub record IsKeyRead (other : List Part) (r r' : Reading) (l l' : Line) : Type 0 where
  pub was : IsHidden other r.body l.content
  pub now : IsHidden other r'.body l'.content
  pub comment : l'.comment ≡ l.comment
  pub body : Agrees other r.body r'.body
  pub leads : leads_dotted other r' l' ≡ leads_dotted other r l

-- the line that is changed, with the readings before it
pub data IsLineRead (t : List ℕ) (path other : List Part) (r r' : Reading) (l : Line) (c : Changed Line) : Type 0 where
  by_key : IsKeyRead other r r' l c.to → IsLineRead t path other r r' l c
  in_braces : r' ≡ r → in_line (renaming (key_part t)) path r l ≡ Some c → IsLineRead t path other r r' l c

-- the same lines, read with other bodies
abbrev pub AreRead : List Part → Reading → Reading → List Line → Type 0
AreRead other r r' [] = ⊤
AreRead other r r' (l ∷ ls) = Agrees other r.body r'.body × AreRead other (after_line r l) (after_line r' l) ls

-- ---- the lines of a page

abbrev pub line_alone : Line → Page
line_alone l = record { ended = []; last = l }

abbrev pub page_with : Ended → Page → Line → Page
page_with e b l = record { ended = record { line = l; newline = e.newline } ∷ b.ended; last = b.last }

abbrev pub page_after : Ended → Page → Page
page_after e b = record { ended = e ∷ b.ended; last = b.last }

abbrev pub page_right : Ended → Page → List ℕ
page_right e b = e.newline.text ++ page_text b

-- the change is in the last line; in the first line; in a later one
pub record IsLast (t : List ℕ) (path other : List Part) (r r' : Reading) (last : Line) (c : Changed Page) : Type 0 where
  pub change : Changed Line
  pub is : c ≡ framed_change line_alone [] [] change
  pub read : IsLineRead t path other r r' last change

pub record IsHere (t : List ℕ) (path other : List Part) (r r' : Reading) (e : Ended) (b : Page) (c : Changed Page)
    : Type 0 where
  pub change : Changed Line
  pub is : c ≡ framed_change (page_with e b) [] (page_right e b) change
  pub cut : IsChangeOf line_text e.line change
  pub read : IsLineRead t path other r r' e.line change
  pub more : AreRead other (after_line r e.line) (after_line r' change.to) (page_lines b)

abbrev pub PageRead : List ℕ → List Part → List Part → Reading → Reading → List Ended → Line → Changed Page → Type 0
PageRead t path other r r' [] last c = IsLast t path other r r' last c
PageRead t path other r r' (e ∷ es) last c =
    IsHere t path other r r' e (record { ended = es; last = last }) c
    ⊎ ((d : Changed Page) × (c ≡ framed_change (page_after e) (text_of (ended_leaves e)) [] d)
    × Agrees other r.body r'.body × PageRead t path other (after_line r e.line) (after_line r' e.line) es last d)

-- the same is done in lines that are read so
pub lines_same : (other : List Part) (f : Reading → Line → Option (Changed Line))
    → ((r r' : Reading) (l : Line) → Agrees other r.body r'.body → f r' l ≡ f r l)
    → (r r' : Reading) (es : List Ended) (last : Line) → AreRead other r r' (map line_of es ++ last ∷ [])
    → in_lines f r' es last ≡ in_lines f r es last
lines_same other f each r r' [] last h = ap (within line_alone [] []) (each r r' last h.0)
lines_same other f each r r' (e ∷ es) last h =
    let b : Page = record { ended = es; last = last } in
    ap₂ (λ (x : Option (Changed Line)) (y : Option (Changed Page)).
    or_else (within (page_with e b) [] (page_right e b) x) (within (page_after e) (text_of (ended_leaves e)) [] y))
    (each r r' e.line h.0) (lines_same other f each (after_line r e.line) (after_line r' e.line) es last h.1)

-- ---- the key of a header, or a keyval's own

module _ (profile : Profile) (t : List ℕ) (is_text : IsKeyText profile t) (p b other : List Part)
    (two : IsBeside t p b) (old : strip p other ≡ None) (new : strip b other ≡ None) where
  abbrev moves : List Part → List Part
  moves = moved_path p b

  kinds_kept : (ms : List Mention) → kinds_at other (map (moved moves) ms) ≡ kinds_at other ms
  kinds_kept [] = refl
  kinds_kept (m ∷ ms) =
      let agrees : Agrees other m.path (moves m.path) = moved_agrees p b other m.path old new in
      let stays : is_at other (moved moves m) ≡ is_at other m =
      ap (λ (q : List Part). same_path q other) (sym (append-nil (moves m.path)))
      ∙ agrees_path other m.path (moves m.path) [] agrees
      ∙ ap (λ (q : List Part). same_path q other) (append-nil m.path) in
      by (is_at other m) refl stays (kinds_kept ms)
    where
      by : (x : Bool) → is_at other m ≡ x → is_at other (moved moves m) ≡ is_at other m
          → kinds_at other (map (moved moves) ms) ≡ kinds_at other ms
          → kinds_at other (map (moved moves) (m ∷ ms)) ≡ kinds_at other (m ∷ ms)
      by true e stays rest = rw (stays, e) (ap (λ (ks : List MentionKind). m.kind ∷ ks) rest)
      by false e stays rest = rw (stays, e) rest

  -- keys with one of them renamed lead through the other path if they did
  leads_kept : (at : List Part) (n : ℕ) (ks ks' : List (List ℕ)) → IsPart p [] at n ks → ks' ≡ replaced_key t n ks
      → has is_dotted other (map (below (moves at)) (keyed_mentions ks' []))
      ≡ has is_dotted other (map (below at) (keyed_mentions ks []))
  leads_kept at n ks ks' part is =
      let both : AreRenamed p b [] at ks ks' =
      subst (AreRenamed p b [] at ks) (sym is) (keys_renamed t p b [] at n ks two part) in
      ap (has is_dotted other) (sym (keyed_renamed p b at ks ks' [] both (part_reaches p at n ks part)))
      ∙ ap (list_any is_dotted) (kinds_kept (map (below at) (keyed_mentions ks [])))

  record IsContentRead (r : Reading) (c c' : Content) : Type 0 where
    was : IsHidden other r.body c
    now : IsHidden other (moves r.body) c'
    leads : leads_dotted other (moved_reading moves r) (plain_line c') ≡ leads_dotted other r (plain_line c)

  content_read : (r : Reading) (n : ℕ) (c : Content) → position (same_path p) (part_paths r c) ≡ Some n
      → EachTo (IsContentRead r c) (rename_content (key_part t) n c)
  content_read r n blank e = tt
  content_read r n (header x k y) e =
      by (rename_part (key_part t) n k) (codes "[" ++ text_of x) (text_of y ++ codes "]")
    where
      by : (o : Option (Changed Key)) (left right : List ℕ)
          → EachTo (IsContentRead r (header x k y)) (within (λ z. header x z y) left right o)
      by None left right = tt
      by (Some c) left right = record { was = tt; now = tt; leads = refl }
  content_read r n (element x k y) e =
      by (rename_part (key_part t) n k) (codes "[[" ++ text_of x) (text_of y ++ codes "]]")
    where
      by : (o : Option (Changed Key)) (left right : List ℕ)
          → EachTo (IsContentRead r (element x k y)) (within (λ z. element x z y) left right o)
      by None left right = tt
      by (Some c) left right = record { was = tt; now = tt; leads = refl }
  content_read r n (keyval name v) e =
      let part : IsPart p [] r.body n (keys_of name.key) = keyval_position p r.body n (keys_of name.key) e in
      to_within (IsNameRenamed profile t n name) (IsContentRead r (keyval name v)) (λ nm. keyval nm v) []
      (text_of_value v) (rename_name (key_part t) n name)
      (λ nm h. record {
        was = own_apart p other r.body n (keys_of name.key) old part;
        now = new_apart t p b other r.body n (keys_of name.key) (keys_of nm.key) two new part h.keys;
        leads = leads_kept r.body n (keys_of name.key) (keys_of nm.key) part h.keys;
      }) (name_renamed profile t is_text n name)

  line_read : (r : Reading) (l : Line)
      → EachOf (IsLineRead t p other r (moved_reading moves r) l) (rename_line (key_part t) p r l)
  line_read r l = by (position (same_path p) (part_paths r l.content)) refl
    where
      inside : (o : Option (Changed Content)) (left right : List ℕ) → EachTo (IsContentRead r l.content) o
          → EachOf (IsLineRead t p other r (moved_reading moves r) l)
          (within (λ c. record l { content = c }) left right o)
      inside None left right h = tt
      inside (Some c) left right h =
          by_key (record {
            was = h.was;
            now = h.now;
            comment = refl;
            body = moved_agrees p b other r.body old new;
            leads = h.leads;
          })

      by : (o : Option ℕ) → position (same_path p) (part_paths r l.content) ≡ o
          → EachOf (IsLineRead t p other r (moved_reading moves r) l) (elim o [
            | None ↦ None
            | Some n ↦
                within (λ c. record l { content = c }) (text_of l.before)
                (text_of l.after ++ text_of (comment_leaves l.comment)) (rename_content (key_part t) n l.content)
          ])
      by None e = tt
      by (Some n) e =
          inside (rename_content (key_part t) n l.content) (text_of l.before)
          (text_of l.after ++ text_of (comment_leaves l.comment)) (content_read r n l.content e)

  -- lines that say nothing of the path itself
  same_read : (r : Reading) (ls : List Line) → AreClear b r.tables → AllOf (IsDisjoint b) (lines_mentions r ls)
      → (SomeOf (IsSolidAt p) (lines_mentions r ls) → ⊥) → AreRead other r (moved_reading moves r) ls
  same_read r [] clear disjoint never = tt
  same_read r (l ∷ ls) clear disjoint never =
      let first : List Mention = line_mentions r l in
      let rest : List Mention = lines_mentions (after_line r l) ls in
      let disjoint_first = all_left (IsDisjoint b) first rest disjoint in
      let m = content_preserved p b r (ends_old t p b two) clear l.content disjoint_first
      (λ s. never (some_left (IsSolidAt p) first rest s)) in (
        moved_agrees p b other r.body old new,
        subst (λ (x : Reading). AreRead other (after_line r l) x ls) (sym m.after)
            (same_read (after_line r l) ls (clear_content b r l.content clear disjoint_first)
            (all_right (IsDisjoint b) first rest disjoint) (λ s. never (some_right (IsSolidAt p) first rest s))),
      )

  key_reads : (r : Reading) (es : List Ended) (last : Line) → AreClear b r.tables
      → (let ls : List Line = map line_of es ++ last ∷ [] in
      AllOf (IsDisjoint b) (lines_mentions r ls) → Once p (lines_mentions r ls)
      → EachOf (PageRead t p other r (moved_reading moves r) es last) (in_lines (rename_line (key_part t) p) r es last))
  key_reads r [] last clear disjoint once =
      of_within (IsLineRead t p other r (moved_reading moves r) last)
      (PageRead t p other r (moved_reading moves r) [] last) line_alone [] [] (rename_line (key_part t) p r last)
      (λ c h. record { change = c; is = refl; read = h }) (line_read r last)
  key_reads r (e ∷ es) last clear disjoint once =
      of_or_else P _ _
      (here (rename_line (key_part t) p r e.line) (rename_line-is (key_part t) p r e.line) (line_read r e.line)
      (line_renamed profile t p b is_text two r e.line))
      (later (in_lines (rename_line (key_part t) p) (after_line r e.line) es last)
      (lines_renamed profile t p b is_text two (after_line r e.line) es last)
      (key_reads (after_line r e.line) es last (clear_content b r e.line.content clear disjoint_first) disjoint_rest
      (once_right p first rest once)))
    where
      page : Page
      page = record { ended = es; last = last }

      P : Changed Page → Type 0
      P = PageRead t p other r (moved_reading moves r) (e ∷ es) last

      first : List Mention
      first = line_mentions r e.line

      rest : List Mention
      rest = lines_mentions (after_line r e.line) (map line_of es ++ last ∷ [])

      disjoint_first : AllOf (IsDisjoint b) first
      disjoint_first = all_left (IsDisjoint b) first rest disjoint

      disjoint_rest : AllOf (IsDisjoint b) rest
      disjoint_rest = all_right (IsDisjoint b) first rest disjoint

      here : (o : Option (Changed Line)) → EachIs line_text e.line o
          → EachOf (IsLineRead t p other r (moved_reading moves r) e.line) o
          → EachTo (IsLineRenamed profile p b r e.line) o
          → EachOf P (within (page_with e page) [] (page_right e page) o)
      here None cut read h = tt
      here (Some c) cut read h =
          inl (record {
            change = c;
            is = refl;
            cut = cut;
            read = read;
            more = subst (λ (x : Reading). AreRead other (after_line r e.line) x (page_lines page))
                (sym (h.content.moves clear disjoint_first).after)
                (same_read (after_line r e.line) (page_lines page)
                (clear_content b r e.line.content clear disjoint_first) disjoint_rest
                (once_after p first rest once h.content.some));
          })

      later : (o : Option (Changed Page))
          → EachTo (λ g. AreLinesRenamed p b (after_line r e.line) (map line_of es ++ last ∷ []) (page_lines g)) o
          → EachOf (PageRead t p other (after_line r e.line) (moved_reading moves (after_line r e.line)) es last) o
          → EachOf P (within (page_after e) (text_of (ended_leaves e)) [] o)
      later None h k = tt
      later (Some d) h k =
          let m = content_preserved p b r (ends_old t p b two) clear e.line.content disjoint_first
          (λ s. once_after p first rest once s h.some) in
          inr (
            d,
            refl,
            moved_agrees p b other r.body old new,
            subst (λ (x : Reading). PageRead t p other (after_line r e.line) x es last d) (sym m.after) k,
          )

-- ---- a key in braces

module _ (t : List ℕ) (p other : List Part) where
  unchanged : (r : Reading) (ls : List Line) → AreRead other r r ls
  unchanged r [] = tt
  unchanged r (l ∷ ls) = (same refl, unchanged (after_line r l) ls)

  -- a line whose value changes is read as before
  reading_stays : (r : Reading) (l : Line)
      → EachTo (λ y. after_line r y ≡ after_line r l) (in_line (renaming (key_part t)) p r l)
  reading_stays r l =
      to_within (λ y. after_line r (record l { content = y }) ≡ after_line r l)
      (λ y. after_line r y ≡ after_line r l) (λ c. record l { content = c }) (text_of l.before)
      (text_of l.after ++ text_of (comment_leaves l.comment)) (in_content (renaming (key_part t)) r.body p l.content)
      (λ y k. k) (of_content l.content)
    where
      reading : Content → Reading
      reading c = after_line r (record l { content = c })

      of_value : (name : Name) (value : Value) (o : Option (Changed Value))
          → EachTo (λ y. reading y ≡ reading (keyval name value))
          (within (keyval name) (text_of (name_leaves name)) [] o)
      of_value name value None = tt
      of_value name value (Some c) = refl

      by : (name : Name) (value : Value) (o : Option (List Part))
          → EachTo {A = Content} (λ y. reading y ≡ reading (keyval name value)) (elim o [
            | None ↦ None
            | Some more ↦ within (keyval name) (text_of (name_leaves name)) []
                (in_value (renaming (key_part t)) more value)
          ])
      by name value None = tt
      by name value (Some more) = of_value name value (in_value (renaming (key_part t)) more value)

      of_content : (c : Content) → EachTo (λ y. reading y ≡ reading c) (in_content (renaming (key_part t)) r.body p c)
      of_content blank = tt
      of_content (header before k after) = tt
      of_content (element before k after) = tt
      of_content (keyval name value) = by name value (strip (r.body ++ step 0 (Some name)) p)

  line_read_in : (r : Reading) (l : Line)
      → EachOf (IsLineRead t p other r r l) (in_line (renaming (key_part t)) p r l)
  line_read_in r l = by (in_line (renaming (key_part t)) p r l) refl
    where
      by : (o : Option (Changed Line)) → in_line (renaming (key_part t)) p r l ≡ o
          → EachOf (IsLineRead t p other r r l) o
      by None e = tt
      by (Some c) e = in_braces refl e

  value_reads : (r : Reading) (es : List Ended) (last : Line)
      → EachOf (PageRead t p other r r es last) (in_lines (in_line (renaming (key_part t)) p) r es last)
  value_reads r [] last =
      of_within (IsLineRead t p other r r last) (PageRead t p other r r [] last) line_alone [] []
      (in_line (renaming (key_part t)) p r last) (λ c h. record { change = c; is = refl; read = h })
      (line_read_in r last)
  value_reads r (e ∷ es) last =
      of_or_else (PageRead t p other r r (e ∷ es) last) _ _
      (here (in_line (renaming (key_part t)) p r e.line)
      (in_line-is (renaming (key_part t)) (renaming-is (key_part t)) p r e.line) (line_read_in r e.line)
      (reading_stays r e.line))
      (of_within (PageRead t p other (after_line r e.line) (after_line r e.line) es last)
      (PageRead t p other r r (e ∷ es) last) (page_after e) (text_of (ended_leaves e)) []
      (in_lines (in_line (renaming (key_part t)) p) (after_line r e.line) es last)
      (λ d h. inr (d, refl, same refl, h)) (value_reads (after_line r e.line) es last))
    where
      page : Page
      page = record { ended = es; last = last }

      here : (o : Option (Changed Line)) → EachIs line_text e.line o → EachOf (IsLineRead t p other r r e.line) o
          → EachTo (λ y. after_line r y ≡ after_line r e.line) o
          → EachOf (PageRead t p other r r (e ∷ es) last) (within (page_with e page) [] (page_right e page) o)
      here None cut read stays = tt
      here (Some c) cut read stays =
          inl (record {
            change = c;
            is = refl;
            cut = cut;
            read = read;
            more = subst (λ (x : Reading). AreRead other (after_line r e.line) x (page_lines page)) (sym stays)
                (unchanged (after_line r e.line) (page_lines page));
          })

-- ---- the document

pub record IsRenamedPage (t : List ℕ) (path other : List Part) (s : Document) (c : Changed Document) : Type 0 where
  pub page : Changed Page
  pub is : c ≡ framed_change (with_page s) (text_of (bom_leaves s.bom)) [] page
  pub read : PageRead t path other start start s.ended s.last page

renamed_reads : (profile : Profile) (t : List ℕ) → IsKeyText profile t → (path b other : List Part)
    → IsBeside t path b → strip path other ≡ None → strip b other ≡ None → (s : Document)
    → AllOf (IsDisjoint b) (mentions_in s) → Once path (mentions_in s)
    → EachOf (IsRenamedPage t path other s) (change s (rename path t))
renamed_reads profile t is_text path b other two old new s clear once =
    of_or_else (IsRenamedPage t path other s)
    (in_document s (in_lines (rename_line (key_part t) path) start s.ended s.last))
    (nested (renaming (key_part t)) path s)
    (whole (in_lines (rename_line (key_part t) path) start s.ended s.last)
    (subst (λ (q : List Part). EachOf (PageRead t path other start (record { tables = []; body = q }) s.ended s.last)
    (in_lines (rename_line (key_part t) path) start s.ended s.last)) (root_renamed path b (ends_old t path b two))
    (key_reads profile t is_text path b other two old new start s.ended s.last tt clear once)))
    (whole (in_lines (in_line (renaming (key_part t)) path) start s.ended s.last)
    (value_reads t path other start s.ended s.last))
  where
    whole : (o : Option (Changed Page)) → EachOf (PageRead t path other start start s.ended s.last) o
        → EachOf (IsRenamedPage t path other s) (in_document s o)
    whole o h =
        of_within (PageRead t path other start start s.ended s.last) (IsRenamedPage t path other s) (with_page s)
        (text_of (bom_leaves s.bom)) [] o (λ c k. record { page = c; is = refl; read = k }) h

pub renamed_page : (profile : Profile) (limit : ℕ) (s : Document) (path : List Part) (t : List ℕ) (other : List Part)
    (x : Changed Document) → IsEditable profile limit s → IsUtf8 t → refusal profile limit s (rename path t) ≡ None
    → strip path other ≡ None → strip (beside path t) other ≡ None → change s (rename path t) ≡ Some x
    → IsRenamedPage t path other s x
renamed_page profile limit s path t other x fine utf8 allowed old new is =
    let ms : List Mention = mentions_in s in
    let named : IsRenamable path t ms = renamable profile limit s path t allowed in
    subst (EachOf (IsRenamedPage t path other s)) is
    (renamed_reads profile t (key_text profile t utf8) path (beside path t) other (beside_is path t ms named) old new
    s (nodes_renamed profile limit s path t fine.valid fine.obeys utf8 allowed).clear
    (once_counted path ms (rules_of_document s fine.obeys) (omega (arith, named.marks))))
