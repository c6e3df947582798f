-- A set of the value of a line that an insert has just added: what it replaces, and that it is not refused.
--
-- Nothing was at the path before, so the search for the value found nothing (`none_found`). With the new lines it finds
-- nothing in the lines before them (`lines_there`), and then the whole value of the line of the path (`own_there`). It
-- replaces that one's text, which comes right after the keys (`place_there`). It is not refused: the path has the value
-- that was inserted, and what encloses it is as before (`encloses`), so another value there is as deep as if it was
-- inserted (`allowed_after`).
--
-- Theorems: `set_after`; `set_there`: after any insert of new keys, by where the search finds the value in the new
-- lines; `next_there`, `own_there`: a search past a line, and in the line of the path; `has_then`, `no_value`: the path
-- of any insert of new keys has a value then, and had none.
use Rattle.std.proofs.Common.{◌≡◌, ℕ, zero, suc, ◌+◌, ◌≤◌, Bool, true, false, not, ◌&&◌, List, [], ◌∷◌}
use Rattle.std.proofs.Common.{◌++◌, length, map, take, drop, refl, sym, ap, ap₂, subst, ◌∙◌, append_assoc}
use Rattle.std.proofs.Common.{length-append, arith, Option, Some, None}
use Rattle.std.specs.List.{flat_map, list_any}
use Rattle.std.proofs.lemmas.Bool.{ltb-false, not-false}
use Rattle.std.proofs.lemmas.List.{append-nil}
use Rattle.keep_types.specs.declared.leaf.Profile.{Profile}
use Rattle.keep_types.specs.declared.leaf.Profile.TheVariants.{Wide}
use Rattle.keep_syntax.specs.Tree.{Written, Content, Name, Value, Line, Ended, Document, bom_leaves, ended_leaves}
use Rattle.keep_syntax.specs.Tree.{keyval, name_leaves, text_of, value_depth, value_text}
use Rattle.keep_syntax.specs.Numbered as syntax
use Rattle.keep_syntax.specs.Profiles.{is_allowed_in}
use Rattle.keep_path.specs.Path.{Part, key, strip}
use Rattle.keep_meaning.specs.Marks.{Mention, Reading, start}
use Rattle.keep_meaning.specs.Meaning.{after_line, line_of, mentions_in, mentions_of_value, reading_after_lines, step}
use Rattle.keep_meaning.specs.Nodes.{is_node}
use Rattle.keep_edit_spec.specs.declared.fault.EditFault.TheVariants as fault
use Rattle.keep_edit_spec.specs.AddedLines.{first_new}
use Rattle.keep_edit_spec.specs.Changed.{Changed, framed_change, or_else, place_of, within}
use Rattle.keep_edit_spec.specs.Edits.{changed_or_same, edited_document, insert, name_with, nested, place, set}
use Rattle.keep_edit_spec.specs.Laws.{IsEditable, IsGivenValue, IsLawfulEdit}
use Rattle.keep_edit_spec.specs.Lines.{Page, ended_text, in_content, in_document, in_line, in_lines, newline_of}
use Rattle.keep_edit_spec.specs.Lines.{page_text, plain_line, with_page}
use Rattle.keep_edit_spec.specs.Look.{enclosing, holder, is_bracket_at, is_index, is_table, item_number}
use Rattle.keep_edit_spec.specs.Refusals.{first_that_holds, has_value, is_too_deep, refusal, refusal_by}
use Rattle.keep_edit_spec.specs.Runs.{MakesChange}
use Rattle.keep_edit_spec.specs.SetValues.{SetsValue}
use Rattle.keep_edit_spec.specs.TextChanges.{TextChange, change_at, place_of_change}
use Rattle.keep_edit_spec.specs.Trees.{fact_from, given, source}
use Rattle.keep_edit_spec.specs.Values.{in_value, replacement}
use Rattle.keep_edit_spec.proofs.Common.DoneAtValue.{EachOf, value_fact-body}
use Rattle.keep_edit_spec.proofs.Common.EntryDepths.{bracket_of, count_same}
use Rattle.keep_edit_spec.proofs.Common.FoundValue.{IsFoundIn, Valid_document, found_nested}
use Rattle.keep_edit_spec.proofs.Common.Runs.{AllOf, IsDisjoint, strip-append}
use Rattle.keep_edit_spec.proofs.Common.Texts.{text_of-append}
use Rattle.keep_edit_spec.proofs.Common.ValueThere.{alone_of_has}
use Rattle.keep_edit_spec.proofs.Insert.KeysAtEnd.{path_goes_on}
use Rattle.keep_edit_spec.proofs.Lists.AddedKeys.{keys_text}
use Rattle.keep_edit_spec.proofs.Lists.AddedKeyval as line
use Rattle.keep_edit_spec.proofs.Lists.AddedKeyval.{AddsKeyval}
use Rattle.keep_edit_spec.proofs.Lists.BracketsStay.{brackets_stay}
use Rattle.keep_edit_spec.proofs.Lists.MadeChanges.{IsAdded, added, change_lawful}
use Rattle.keep_edit_spec.proofs.Lists.NewHolder.{nothing_under, path_new}
use Rattle.keep_edit_spec.proofs.Lists.NewPaths.{InsertsKeys, first_path, unsaid}
use Rattle.keep_edit_spec.proofs.Lists.OneValue.{at_end}
use Rattle.keep_edit_spec.proofs.Lists.Places.{item_none, width}
use Rattle.keep_edit_spec.proofs.Lists.SetAllowed.{node_alone, unrefused, value_of}
use Rattle.keep_edit_spec.proofs.Lists.SomeBytes.{value_has_bytes}
use Rattle.keep_edit_spec.proofs.Rename.RenamedParts.{strip_self}
use Rattle.keep_edit_spec.proofs.Rename.RenamedPath.{short_disjoint}

-- ---- in lines where nothing was found

within_none : {A B : Type 0} (outer : A → B) (left right : List ℕ) (o : Option (Changed A))
    → within outer left right o ≡ None → o ≡ None
within_none outer left right None h = refl
within_none outer left right (Some c) h = absurd cc

or_none : {A : Type 0} (o p : Option A) → or_else o p ≡ None → (o ≡ None) × (p ≡ None)
or_none None p h = (refl, h)
or_none (Some c) p h = absurd cc

-- something was found, after these bytes, and gives place to these
pub record IsThere (o : Option (Changed Page)) (before old new : List ℕ) : Type 0 where
  pub next : Changed Page
  pub is : o ≡ Some next
  pub left : next.before ≡ before
  pub gone : next.old ≡ old
  pub comes : next.new ≡ new

module _ (f : Reading → Line → Option (Changed Line)) (last : Line) where
  -- a line seen from the lines from it on, and lines seen from those with one more before them
  abbrev with_line : Ended → List Ended → Line → Page
  with_line e es l = record { ended = record { line = l; newline = e.newline } ∷ es; last = last }

  abbrev after_text : Ended → List Ended → List ℕ
  after_text e es = e.newline.text ++ page_text (record { ended = es; last = last })

  abbrev with_first : Ended → Page → Page
  with_first e b = record { ended = e ∷ b.ended; last = b.last }

  -- in the first line
  pub first_there : (x : Ended) (d : Changed Line) (r : Reading) (es : List Ended) → f r x.line ≡ Some d
      → IsThere (in_lines f r (x ∷ es) last) d.before d.old d.new
  first_there x d r es found = record {
    next = framed_change (with_line x es) [] (after_text x es) d;
    is = ap (λ (o : Option (Changed Line)). or_else (within (with_line x es) [] (after_text x es) o)
        (within (with_first x) (text_of (ended_leaves x)) [] (in_lines f (after_line r x.line) es last))) found;
    left = refl;
    gone = refl;
    comes = refl;
  }

  -- after a line in which nothing is found
  pub next_there : (r : Reading) (e : Ended) (es : List Ended) (before old new : List ℕ) → f r e.line ≡ None
      → IsThere (in_lines f (after_line r e.line) es last) before old new
      → IsThere (in_lines f r (e ∷ es) last) (text_of (ended_leaves e) ++ before) old new
  next_there r e es before old new none k = record {
    next = framed_change (with_first e) (text_of (ended_leaves e)) [] k.next;
    is = ap₂ (λ (o : Option (Changed Line)) (p : Option (Changed Page)).
        or_else (within (with_line e es) [] (after_text e es) o)
        (within (with_first e) (text_of (ended_leaves e)) [] p)) none k.is;
    left = ap (λ (t : List ℕ). text_of (ended_leaves e) ++ t) k.left;
    gone = k.gone;
    comes = k.comes;
  }

  -- after the first of the lines in which nothing was found, where other lines come after these
  pub lines_there : (r : Reading) (n : ℕ) (es to : List Ended) (before old new : List ℕ) → n ≤ length es
      → in_lines f r es last ≡ None
      → IsThere (in_lines f (reading_after_lines r (map line_of (take n es))) to last) before old new
      → IsThere (in_lines f r (take n es ++ to) last) (ended_text (take n es) ++ before) old new
  lines_there r zero [] to before old new few none there = there
  lines_there r zero (e ∷ es) to before old new few none there = there
  lines_there r (suc m) [] to before old new few none there = absurd (let k : suc m ≤ 0 = few in omega (arith, k))
  lines_there r (suc m) (e ∷ es) to before old new few none there =
      let k : suc m ≤ suc (length es) = few in
      let first : List ℕ = text_of (ended_leaves e) in
      let more : List Ended = take m es ++ to in
      let (here, rest) =
      or_none (within (with_line e es) [] (after_text e es) (f r e.line))
      (within (with_first e) first [] (in_lines f (after_line r e.line) es last)) none in
      let later : IsThere (in_lines f (after_line r e.line) more last) (ended_text (take m es) ++ before) old new =
      lines_there (after_line r e.line) m es to before old new (omega (arith, k))
      (within_none (with_first e) first [] (in_lines f (after_line r e.line) es last) rest) there in
      let spelled : first ++ (ended_text (take m es) ++ before) ≡ ended_text (e ∷ take m es) ++ before =
      sym (append_assoc first (ended_text (take m es)) before)
      ∙ ap (λ (t : List ℕ). t ++ before)
      (sym (text_of-append (ended_leaves e) (flat_map ended_leaves (take m es)))) in
      subst (λ (t : List ℕ). IsThere (in_lines f r (e ∷ more) last) t old new) spelled
      (next_there r e more (ended_text (take m es) ++ before) old new
      (within_none (with_line e es) [] (after_text e es) (f r e.line) here) later)

-- ---- in the line of the path

module _ (path : List Part) (name : Name) (value more : Value) where
  abbrev written : List ℕ
  written = text_of (name_leaves name)

  abbrev own_line : Line
  own_line = plain_line (keyval name value)

  -- what the set makes of the line, after such bytes
  abbrev made : List ℕ → Changed Line
  made before =
      record {
        to = plain_line (keyval name more);
        before = before;
        old = value_text value;
        new = value_text more;
        after = [];
      }

  line_made : (r : Reading) → r.body ++ step 0 (Some name) ≡ path
      → in_line (replacement more) path r own_line ≡ Some (made written)
  line_made r is =
      let own : strip (r.body ++ step 0 (Some name)) path ≡ Some [] =
      ap (λ (p : List Part). strip p path) is ∙ strip_self path in
      let content : in_content (replacement more) r.body path (keyval name value)
      ≡ within (keyval name) written [] (in_value (replacement more) [] value) =
      rw (own, in_content) refl in
      ap (within (λ (x : Content). record own_line { content = x }) [] [])
      (content ∙ ap (within (keyval name) written []) (at_end (replacement more) value))
      ∙ ap (λ (t : List ℕ). Some (made t)) (append-nil written)

  -- the search finds its whole value
  pub own_there : (newline : Written) (r : Reading) (es : List Ended) (last : Line)
      → r.body ++ step 0 (Some name) ≡ path
      → (let x : Ended = record { line = own_line; newline = newline } in
      IsThere (in_lines (in_line (replacement more) path) r (x ∷ es) last) written (value_text value)
      (value_text more))
  own_there newline r es last is =
      first_there (in_line (replacement more) path) last (record { line = own_line; newline = newline })
      (made written) r es (line_made r is)

-- the place of what the search finds in a document
place_there : (s : Document) (path : List Part) (more : Value) (before old : List ℕ) (at : ℕ)
    → IsThere (in_lines (in_line (replacement more) path) start s.ended s.last) before old (value_text more)
    → length (text_of (bom_leaves s.bom)) + length before ≡ at
    → place s (set path more) ≡ place_of_change (change_at at (length old) (value_text more))
place_there s path more before old at found begins =
    let bom : List ℕ = text_of (bom_leaves s.bom) in
    let there : length (bom ++ found.next.before) ≡ at =
    omega (arith, length-append bom found.next.before, ap (λ (t : List ℕ). length t) found.left, begins) in
    ap (λ (o : Option (Changed Page)). place_of (changed_or_same s (in_document s o))) found.is
    ∙ ap₂ (λ (z : ℕ) (t : List ℕ). record { start = z; end = z + length found.next.old; new = t }) there found.comes
    ∙ ap (λ (t : List ℕ). record { start = at; end = at + length t; new = value_text more }) found.gone

-- ---- what an insert is not refused for

last_two : (a b c d e : Bool)
    → first_that_holds ((a, fault.NotFound) ∷ (b, fault.Exists) ∷ (c, fault.NotTable) ∷ (d, fault.TooDeep)
    ∷ (e, fault.Profile) ∷ []) ≡ None
    → (d ≡ false) × (e ≡ false)
last_two true b c d e h = absurd cc
last_two false true c d e h = absurd cc
last_two false false true d e h = absurd cc
last_two false false false true e h = absurd cc
last_two false false false false true h = absurd cc
last_two false false false false false h = (refl, refl)

-- ---- the value of an insert of new keys

all_there : {A : Type 0} (P : A → Type 0) (l r : List A) (x : A) → AllOf P (l ++ x ∷ r) → P x
all_there P [] r x h = h.0
all_there P (y ∷ l) r x h = all_there P l r x h.1

module _ (profile : Profile) (limit : ℕ) (s : Document) (path : List Part) (value : Value)
    (h : InsertsKeys profile limit s path value) where
  no_item : item_number path (mentions_in s) ≡ None
  no_item = item_none path (holder path (mentions_in s)) h.text h.more h.new (mentions_in s)

  -- the document says nothing under the path of the first new key
  none_there : AllOf (IsDisjoint (first_new s path)) (mentions_in s)
  none_there =
      subst (λ (p : List Part). AllOf (IsDisjoint p) (mentions_in s)) (sym (first_path profile limit s path value h))
      (nothing_under s path (holder path (mentions_in s)) h.text h.more h.new (unsaid profile limit s path value h))

  -- the path is none of a node
  pub no_value : has_value path (mentions_in s) ≡ false
  no_value = by (has_value path (mentions_in s)) refl
    where
      by : (b : Bool) → has_value path (mentions_in s) ≡ b → b ≡ false
      by false e = refl
      by true e =
          let new : is_node path (mentions_in s) ≡ false =
          path_new s path (holder path (mentions_in s)) h.text h.more h.new (unsaid profile limit s path value h) in
          let node : is_node path (mentions_in s) ≡ true =
          node_alone path (mentions_in s) (alone_of_has path (mentions_in s) e) in
          absurd cc

  pub has_then : IsLawfulEdit profile limit s (insert path value)
      → has_value path (mentions_in (edited_document s (insert path value))) ≡ true
  has_then lawful =
      let ms : List Mention = mentions_in s in
      let own : source ms (insert path value) path ≡ given [] = rw (no_item, strip_self path, source) refl in
      ap value_of (lawful.tree path ∙ ap (fact_from ms (mentions_of_value value)) own) ∙ value_fact-body value.body

  -- ---- before it nothing is found at the path

  abbrev first : List Part
  first = first_new s path

  goes_on : strip first path ≡ Some (map key h.more)
  goes_on =
      ap (strip first) (path_goes_on s path h.text h.more h.new) ∙ strip-append first (map key h.more)

  abbrev Found : Value → Changed Document → Type 0
  Found more = IsFoundIn (replacement more) (Valid_document s) 0 path (mentions_in s) (syntax.values s)

  not_found : (more : Value) (o : Changed Document) (k : Found more o) (rest : List Part) → k.more ≡ rest → ⊥
  not_found more o k (p ∷ ps) e =
      let none : None ≡ Some k.done = ap (λ (q : List Part). replacement more q k.value) (sym e) ∙ k.by in
      absurd cc
  not_found more o k [] e =
      let own : path ≡ k.mention.path =
      k.place ∙ ap (λ (q : List Part). k.mention.path ++ q) e ∙ append-nil k.mention.path in
      let apart : strip first k.mention.path ≡ None =
      all_there (IsDisjoint first) k.earlier k.later k.mention
      (subst (AllOf (IsDisjoint first)) k.mentioned none_there) in
      let both : Some (map key h.more) ≡ None = sym goes_on ∙ ap (strip first) own ∙ apart in
      absurd cc

  none_by : (more : Value) (o : Option (Changed Document)) → EachOf (Found more) o → o ≡ None
  none_by more None k = refl
  none_by more (Some o) k = absurd (not_found more o k k.more refl)

  none_found : (more : Value) → in_lines (in_line (replacement more) path) start s.ended s.last ≡ None
  none_found more =
      within_none (with_page s) (text_of (bom_leaves s.bom)) []
      (in_lines (in_line (replacement more) path) start s.ended s.last)
      (none_by more (nested (replacement more) path s) (found_nested (replacement more) path s))

-- ---- after an insert of new keys

module _ (profile : Profile) (limit : ℕ) (s : Document) (path : List Part) (value : Value) (c : TextChange)
    (h : InsertsKeys profile limit s path value) (fine : IsEditable profile limit s)
    (makes : MakesChange profile limit s (insert path value) c) where
  abbrev ms : List Mention
  ms = mentions_in s

  abbrev now : Document
  now = edited_document s (insert path value)

  -- ---- the facts

  lawful : IsLawfulEdit profile limit s (insert path value)
  lawful = change_lawful profile limit s (insert path value) c fine makes

  encloses : (q : List Part) (k : Part) (qs : List Part) → path ≡ q ++ k ∷ qs
      → is_bracket_at (mentions_in now) q ≡ is_bracket_at ms q
  encloses q k qs is =
      let clear : strip path q ≡ None =
      short_disjoint path q (omega (arith, ap length is, length-append q (k ∷ qs))) in
      ap bracket_of (lawful.tree q)
      ∙ brackets_stay ms path value q (no_item profile limit s path value h) clear

  allowed_after : (more : Value) → refusal profile limit s (insert path more) ≡ None
      → refusal profile limit now (set path more) ≡ None
  allowed_after more allowed =
      let valued : has_value path (mentions_in now) ≡ true = has_then profile limit s path value h lawful in
      let a : List Part = holder path ms in
      let (shallow, suits) =
      last_two (not (is_node path ms) && list_any is_index (drop (length a) path)) (is_node path ms)
      (not (is_table a ms)) (is_too_deep limit path more ms) (not (is_allowed_in profile more))
      (rw (no_item profile limit s path value h, refusal_by) at allowed) in
      let few : enclosing path ms + value_depth more ≤ limit =
      ltb-false limit (enclosing path ms + value_depth more) shallow in
      let same : enclosing path (mentions_in now) ≡ enclosing path ms =
      count_same (is_bracket_at (mentions_in now)) (is_bracket_at ms) path encloses in
      unrefused profile limit path more (mentions_in now) (record {
        node = node_alone path (mentions_in now) (alone_of_has path (mentions_in now) valued);
        valued = valued;
        shallow = omega (arith, few, same);
        suits = not-false (is_allowed_in profile more) suits;
      })

  -- ---- the value, where it is found in the lines that come before line n

  module _ (n : ℕ) (to : List Ended) (few : n ≤ length s.ended)
      (is : now ≡ record { bom = s.bom; ended = take n s.ended ++ to; last = s.last })
      (at : c.at ≡ length (text_of (bom_leaves s.bom)) + width (take n s.ended)) (more : Value)
      (before : List ℕ) where
    abbrev search : Reading → List Ended → Option (Changed Page)
    search r es = in_lines (in_line (replacement more) path) r es s.last

    pub set_there : IsThere (search (reading_after_lines start (map line_of (take n s.ended))) to) before
        (value_text value) (value_text more)
        → IsGivenValue Wide more → refusal profile limit s (insert path more) ≡ None
        → SetsValue profile limit now path more
        (change_at (c.at + length before) (length (value_text value)) (value_text more))
    set_there found suits allowed =
        let first : List ℕ = ended_text (take n s.ended) in
        let found_all : IsThere (search start (take n s.ended ++ to)) (first ++ before) (value_text value)
        (value_text more) =
        lines_there (in_line (replacement more) path) s.last start n s.ended to before (value_text value)
        (value_text more) few (none_found profile limit s path value h more) found in
        record {
          given = suits;
          allowed = allowed_after more allowed;
          some = value_has_bytes Wide value (added profile limit s path value c makes).given.valid;
          is = ap (λ (d : Document). place d (set path more)) is
              ∙ place_there (record { bom = s.bom; ended = take n s.ended ++ to; last = s.last }) path more
              (first ++ before) (value_text value) (c.at + length before) found_all
              (omega (arith, length-append first before, at));
        }

-- that adds a line
pub set_after : (profile : Profile) (limit : ℕ) (s : Document) (path : List Part) (value : Value) (c : TextChange)
    → (h : AddsKeyval profile limit s path value c) → IsEditable profile limit s
    → MakesChange profile limit s (insert path value) c
    → (more : Value) (d : TextChange) → MakesChange profile limit s (insert path more) d
    → SetsValue profile limit (edited_document s (insert path value)) path more
    (change_at (c.at + length (keys_text (line.keys profile limit s path value c h))) (length (value_text value))
    (value_text more))
set_after profile limit s path value c h fine makes more d makes_more =
    let keys : List (List ℕ) = line.keys profile limit s path value c h in
    let new : IsAdded profile limit s path more d = added profile limit s path more d makes_more in
    set_there profile limit s path value c h.inserts fine makes h.n
    (line.x profile limit s path value c h ∷ drop h.n s.ended) h.few h.puts.is h.puts.at more (keys_text keys)
    (own_there path (name_with keys) value more (newline_of s) (line.r profile limit s path value c h)
    (drop h.n s.ended) s.last (line.own_path profile limit s path value c h))
    new.given new.allowed
