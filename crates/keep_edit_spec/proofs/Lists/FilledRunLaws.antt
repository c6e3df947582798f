-- Runs of new tables and elements that a list appends, and of keys that it inserts into the last of them: the laws of
-- one more.
--
-- What `later` says of a table is that of the first document, where the changes move its change, and so is what is said
-- of an element, but for its number. So the header is not refused, and the text has the change put in there
-- (TextsAfter); its table or element is open then (TableOpened, ElementOpened). A key of what is open comes at the end
-- of the text, which is where the changes move the end of the first. Other tables are new still, other elements come
-- still, and what is open is so for other keys (FilledTables).
--
-- Theorems: `none_is_filled_run`, `filled_run_goes_on_table`, `filled_run_goes_on_element`, `filled_run_goes_on_key`.
use Rattle.std.proofs.Common.{◌≡◌, ℕ, ◌+◌, Bool, false, cond, List, [], ◌∷◌, length, take, drop, refl, sym, ap, subst}
use Rattle.std.proofs.Common.{subst₂, ◌∙◌, arith, All, inl}
use Rattle.std.proofs.lemmas.List.Elements.{All-head, All-tail}
use Rattle.std.proofs.lemmas.List.Sums.{sum_by-cons}
use Rattle.keep_types.specs.declared.leaf.Profile.{Profile}
use Rattle.keep_syntax.specs.Tree.{Document, Written, text}
use Rattle.keep_path.specs.Path.{Part}
use Rattle.keep_edit_spec.specs.AddedLines.{AddsLine}
use Rattle.keep_edit_spec.specs.Edits.{Edit, append_element, append_table, edited_document, insert, place}
use Rattle.keep_edit_spec.specs.FilledTables.{AppendsNewElement, AppendsNewTable, FilledRunGoesOnElement}
use Rattle.keep_edit_spec.specs.FilledTables.{FilledRunGoesOnKey, FilledRunGoesOnTable, IsFilledRun, IsFilledRunLonger}
use Rattle.keep_edit_spec.specs.FilledTables.{IsOpen, IsOpenTable, LetsElementCome, LetsTableCome, NoneIsFilledRun}
use Rattle.keep_edit_spec.specs.FilledTables.{element_at, elements_among, is_element_of, key_in, key_line}
use Rattle.keep_edit_spec.specs.Lines.{newline_of}
use Rattle.keep_edit_spec.specs.Runs.{MakesChange}
use Rattle.keep_edit_spec.specs.TextChanges.{IsBeside, TextChange, change_at, moved, moved_by, moved_by_all, moved_past}
use Rattle.keep_edit_spec.specs.TextChanges.{place_of_change, with_change}
use Rattle.keep_edit_spec.specs.declared.line_kind.LineKind.TheVariants.{LastInBody}
use Rattle.keep_edit_spec.proofs.Lists.ElementOpened.{element_opened}
use Rattle.keep_edit_spec.proofs.Lists.FilledTables.{element_after, element_after_key, element_more, end_after}
use Rattle.keep_edit_spec.proofs.Lists.FilledTables.{new_after_element, new_after_key, new_after_table}
use Rattle.keep_edit_spec.proofs.Lists.FilledTables.{newline_after_element, newline_after_key, newline_after_table}
use Rattle.keep_edit_spec.proofs.Lists.FilledTables.{open_after_key}
use Rattle.keep_edit_spec.proofs.Lists.HeaderComes.{comes_at, element_comes, table_comes}
use Rattle.keep_edit_spec.proofs.Lists.MadeChanges.{change_allowed, change_lawful}
use Rattle.keep_edit_spec.proofs.Lists.TableOpened.{table_opened}
use Rattle.keep_edit_spec.proofs.Lists.TextChanges.{moved_with, one_of_all, rest_of_all}
use Rattle.keep_edit_spec.proofs.Lists.TextsAfter.{IsTextAfter, made_puts, text_goes_on}

pub none_is_filled_run : NoneIsFilledRun
none_is_filled_run profile limit s editable = record {
  first = editable;
  editable = editable;
  follow = tt;
  text = refl;
  kept = λ z beside few. ap (λ (at : ℕ). take z.size (drop at (text s))) (omega arith);
  newline = refl;
  end = omega arith;
  later = λ keys c new lets beside.
      subst (λ (at : ℕ). AppendsNewTable profile limit s keys (record c { at = at }))
      (let same : c.at ≡ moved_by_all [] c.at = omega arith in same) new;
  later_element = λ keys number c new lets beside.
      subst₂ (λ (n at : ℕ). AppendsNewElement profile limit s keys n (record c { at = at }))
      (let same : number ≡ elements_among keys [] + number = omega arith in same)
      (let same : c.at ≡ moved_by_all [] c.at = omega arith in same) new;
}

-- ---- one more, at the end of the text

module _ (profile : Profile) (limit : ℕ) (s : Document) (edits : List Edit) (changes : List TextChange)
    (now : Document) (r : IsFilledRun profile limit s edits changes now) (e : Edit) (c : TextChange)
    (beside : All (λ d. IsBeside d c) changes) (at : c.at ≡ length (text s)) (adds : c.size ≡ 0)
    (is_now : MakesChange profile limit now e (moved_past changes c))
    (is : place now e ≡ place_of_change (moved_past changes c)) where
  before : IsTextAfter profile limit s changes now
  before = record { first = r.first; editable = r.editable; follow = r.follow; text = r.text; kept = r.kept }

  after : IsTextAfter profile limit s (with_change changes c) (edited_document now e)
  after =
      text_goes_on profile limit s changes now e c before (omega (arith, at, adds)) beside
      (made_puts profile limit now e (moved_past changes c) r.editable is_now)

  end_now : moved_by_all changes c.at ≡ length (text now)
  end_now = ap (moved_by_all changes) at ∙ r.end

  there : moved_past changes c ≡ change_at (length (text now)) 0 c.new
  there = ap (λ (n : ℕ). change_at n c.size c.new) end_now ∙ ap (λ (n : ℕ). change_at (length (text now)) n c.new) adds

  -- the end is as much later as the change is long
  end_then : moved_by_all (with_change changes c) (length (text s)) ≡ length (text (edited_document now e))
  end_then =
      ap (moved_by_all (with_change changes c)) (sym at)
      ∙ ap (λ (x : TextChange). x.at)
      (moved_with changes c c r.follow beside beside (inl (omega (arith, adds))))
      ∙ ap (λ (x : TextChange). moved_by x x.at) there
      ∙ sym (end_after now e c.new (is ∙ ap place_of_change there ∙ at_end))
    where
      at_end : place_of_change (change_at (length (text now)) 0 c.new)
          ≡ record { start = length (text now); end = length (text now); new = c.new }
      at_end = ap (λ (n : ℕ). record { start = length (text now); end = n; new = c.new }) (omega arith)

  longer : newline_of (edited_document now e) ≡ newline_of now
      → ((more : List (List ℕ)) (d : TextChange) → LetsTableCome more e
      → AppendsNewTable profile limit now more (moved_past changes d)
      → AppendsNewTable profile limit (edited_document now e) more
      (moved (moved_past changes c) (moved_past changes d)))
      → ((more : List (List ℕ)) (number : ℕ) (d : TextChange) → LetsElementCome more e
      → AppendsNewElement profile limit now more number (moved_past changes d)
      → AppendsNewElement profile limit (edited_document now e) more (cond (is_element_of more e) 1 0 + number)
      (moved (moved_past changes c) (moved_past changes d)))
      → IsFilledRunLonger profile limit s edits changes now e c
  longer newline still still_element = record {
    allowed = change_allowed profile limit now e (moved_past changes c) is_now;
    lawful = change_lawful profile limit now e (moved_past changes c) r.editable is_now;
    run = record {
      first = after.first;
      editable = after.editable;
      follow = after.follow;
      text = after.text;
      kept = after.kept;
      newline = newline ∙ r.newline;
      end = end_then;
      later = λ more d new lets beside'.
          let others : All (λ x. IsBeside x d) changes = rest_of_all (λ x. IsBeside x d) changes c beside' in
          let one : IsBeside c d = one_of_all (λ x. IsBeside x d) changes c beside' in
          subst (AppendsNewTable profile limit (edited_document now e) more)
          (sym (moved_with changes c d r.follow beside others one))
          (still more d (All-head (LetsTableCome more) e edits lets)
          (r.later more d new (All-tail (LetsTableCome more) e edits lets) others));
      later_element = λ more number d new lets beside'.
          let others : All (λ x. IsBeside x d) changes = rest_of_all (λ x. IsBeside x d) changes c beside' in
          let one : IsBeside c d = one_of_all (λ x. IsBeside x d) changes c beside' in
          let among : cond (is_element_of more e) 1 0 + (elements_among more edits + number)
          ≡ elements_among more (e ∷ edits) + number =
          omega (arith, sum_by-cons (λ (f : Edit). cond (is_element_of more f) 1 0) e edits) in
          subst₂ (AppendsNewElement profile limit (edited_document now e) more) among
          (sym (moved_with changes c d r.follow beside others one))
          (still_element more (elements_among more edits + number) d (All-head (LetsElementCome more) e edits lets)
          (r.later_element more number d new (All-tail (LetsElementCome more) e edits lets) others));
    };
  }

-- ---- a table, and an element

-- an edit that appends no element leaves their number
as_many : (profile : Profile) (limit : ℕ) (then : Document) (more : List (List ℕ)) (number : ℕ) (d : TextChange)
    (e : Edit) → is_element_of more e ≡ false → AppendsNewElement profile limit then more number d
    → AppendsNewElement profile limit then more (cond (is_element_of more e) 1 0 + number) d
as_many profile limit then more number d e none h =
    let zero_more : cond {A = ℕ} (is_element_of more e) 1 0 ≡ 0 = ap (λ (b : Bool). cond {A = ℕ} b 1 0) none in
    subst (λ (n : ℕ). AppendsNewElement profile limit then more n d)
    (let same : number ≡ cond (is_element_of more e) 1 0 + number = omega (arith, zero_more) in same) h

pub filled_run_goes_on_table : FilledRunGoesOnTable
filled_run_goes_on_table profile limit s edits changes now keys c r new lets beside =
    let there : TextChange = moved_past changes c in
    let is_now : AppendsNewTable profile limit now keys there = r.later keys c new lets beside in
    let at : c.at ≡ length (text s) =
    comes_at s keys c _ (table_comes profile limit s keys c r.first new.appends) profile r.first.valid in (
      longer profile limit s edits changes now r (append_table keys) c beside at new.appends.adds is_now.appends
          is_now.appends.is (newline_after_table profile limit now keys there r.editable is_now.appends)
          (λ more d clear its. new_after_table profile limit now keys there r.editable is_now.appends more
          (moved_past changes d) its clear)
          (λ more number d apart its. as_many profile limit (edited_document now (append_table keys)) more number _
          (append_table keys) refl
          (element_after profile limit now keys there r.editable is_now.appends more number (moved_past changes d) its
          apart)),
      subst (λ (w : Written). IsOpenTable profile limit w.text (edited_document now (append_table keys)) keys [])
          r.newline (table_opened profile limit now keys there r.editable is_now),
    )

pub filled_run_goes_on_element : FilledRunGoesOnElement
filled_run_goes_on_element profile limit s edits changes now keys number c r new lets beside =
    let there : TextChange = moved_past changes c in
    let then : ℕ = elements_among keys edits + number in
    let is_now : AppendsNewElement profile limit now keys then there = r.later_element keys number c new lets beside in
    let at : c.at ≡ length (text s) =
    comes_at s keys c _ (element_comes profile limit s keys c r.first new.appends) profile r.first.valid in (
      longer profile limit s edits changes now r (append_element keys) c beside at new.appends.adds is_now.appends
          is_now.appends.is (newline_after_element profile limit now keys then there r.editable is_now)
          (λ more d apart its. new_after_element profile limit now keys then there r.editable is_now more
          (moved_past changes d) its apart)
          (λ more count d apart its. element_more profile limit now keys then there r.editable is_now more count
          (moved_past changes d) its apart),
      subst (λ (w : Written). IsOpen profile limit w.text (edited_document now (append_element keys))
          (element_at keys then) [])
          r.newline (element_opened profile limit now keys then there r.editable is_now),
    )

-- ---- a key of what is open

pub filled_run_goes_on_key : FilledRunGoesOnKey
filled_run_goes_on_key profile limit s edits changes now at names name value c r opened utf8 fits fresh is beside =
    let w : List ℕ = (newline_of s).text in
    let path : List Part = key_in at name in
    let start : c.at ≡ length (text s) = ap (λ (x : TextChange). x.at) is in
    let adds : c.size ≡ 0 = ap (λ (x : TextChange). x.size) is in
    let new : c.new ≡ key_line w name value = ap (λ (x : TextChange). x.new) is in
    let (h, first) = opened name value utf8 fits fresh in
    let there : moved_past changes c ≡ change_at (length (text now)) 0 (key_line w name value) =
    ap (λ (n : ℕ). change_at n c.size c.new) (ap (moved_by_all changes) start ∙ r.end)
    ∙ ap (λ (n : ℕ). change_at (length (text now)) n c.new) adds
    ∙ ap (change_at (length (text now)) 0) new in
    let line : AddsLine profile limit now path value (moved_past changes c) =
    subst (AddsLine profile limit now path value) (sym there) h in (
      longer profile limit s edits changes now r (insert path value) c beside start adds (LastInBody, line)
          (line.is ∙ ap (λ (n : ℕ). record { start = moved_by_all changes c.at; end = n; new = c.new })
          (omega (arith, adds)))
          (newline_after_key profile limit now path value (moved_past changes c) r.editable line)
          (λ more d clear its. new_after_key profile limit now path value (moved_past changes c) r.editable line first
          more clear (moved_past changes d) its)
          (λ more number d clear its. as_many profile limit (edited_document now (insert path value)) more number _
          (insert path value) refl
          (element_after_key profile limit now path value (moved_past changes c) r.editable line first more clear
          number (moved_past changes d) its)),
      open_after_key profile limit w now at names name value r.editable opened utf8 fits fresh,
    )
