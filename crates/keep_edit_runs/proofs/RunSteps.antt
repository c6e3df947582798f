-- Edits of a list that each make a change of one document: the edits so far are made in its text, with their changes.
--
-- By the law of runs one more such edit is not refused after those before it, and its change is put in where they move
-- it. An edit of an entry does so as the set of its holder, which stands for it in the run. So the edits up to it are
-- made, and the text is that with one change more, which is in UTF-8 as all of its parts are. A set of a value that
-- one of them sets is not refused either, and its change comes in the place of that one's (SetAgainSteps).
--
-- Theorems: `no_changes`, `more_changes`: before the first edit, and with one more; `all_made`, `all_within`: so all
-- are made; `text_utf8`: the text with the changes; `change_made`, `tree_made`: an edit that puts one change more into
-- it; `tree_of_run`: the document after a run; `run_so_far`: the run of the edits so far; `order`, `passes`,
-- `known_with`, `headers_with`, `headed_with`, `counted_with`: a line or a header comes in order, and is known;
-- `counted_more`: one element more of a list is counted; `before_headers`: a line comes before headers that are
-- appended; `made_of_others`: of one of the edits; `unadded`, `added`: what is added to a list.
use Rattle.std.proofs.Common.{[], ◌≡◌, ◌≢◌, ◌<◌, ◌≤◌, ◌+◌, ◌∷◌, ◌++◌, ℕ, zero, suc, List, length, take, drop}
use Rattle.std.proofs.Common.{get_or, refl, sym, ap, subst, subst₂, ◌∙◌, arith, All, IsUtf8, IsCharBoundary, inl, inr}
use Rattle.std.proofs.Common.{cond}
use Rattle.std.specs.Prelude.{◌⊎◌, Any, Bool, Err, IfOk, IsTrue, None, Ok, OnErr, Option, Result, Some, false}
use Rattle.std.specs.Prelude.{if◌then◌else◌, true}
use Rattle.std.specs.Bool.{Decides}
use Rattle.std.specs.List.{count_by, list_any}
use Rattle.std.proofs.lemmas.List.Folds.{list_any_none}
use Rattle.std.proofs.lemmas.List.Sums.{sum_by-cons}
use Rattle.std.specs.Result.{result_unwrap_or}
use Rattle.std.specs.declared.alloc.AllocError.{AllocError}
use Rattle.std.proofs.lemmas.List.{get_or-take, length-take-le}
use Rattle.std.proofs.lemmas.List.Elements.{All-cons, All-head, All-nil, All-tail, All-weaker}
use Rattle.std.proofs.lemmas.Str.{IsCharBoundary-start, IsUtf8-append, IsUtf8-drop, IsUtf8-string_bytes}
use Rattle.std.proofs.lemmas.Str.{IsUtf8-take}
use Rattle.keep_types.specs.declared.leaf.Profile.{Profile}
use Rattle.keep_syntax.specs.Tree.{Document, Value, text}
use Rattle.keep_path.specs.Path.{Part}
use Rattle.keep_edit_spec.specs.AddedLines.{first_new}
use Rattle.keep_edit_spec.specs.Changed.{put}
use Rattle.keep_edit_spec.specs.Edits as law
use Rattle.keep_edit_spec.specs.Edits.{edited_document, place}
use Rattle.keep_edit_spec.specs.EntryEdits.{IsRunLongerByEntry, MakesSet}
use Rattle.keep_edit_spec.specs.InsertKinds.{Added, IsAfterLine, IsHeaderAt, added_as, kind_of}
use Rattle.keep_edit_spec.specs.Laws.{IsLawfulEdit}
use Rattle.keep_edit_spec.specs.Refusals.{refusal}
use Rattle.keep_edit_spec.specs.LinesAhead.{is_end_at, is_headed_at}
use Rattle.keep_edit_spec.specs.RenameLists.{AllowsKey, IsRenameIn}
use Rattle.keep_edit_spec.specs.Runs as runs
use Rattle.keep_edit_spec.specs.RunLists.{AreAtOnce, IsOneOf, IsSetIn, MadeEdit, changes_of, document_after}
use Rattle.keep_edit_spec.specs.RunLists.{lines_of}
use Rattle.keep_edit_spec.specs.RunLists.{seen_of}
use Rattle.keep_edit_spec.specs.Runs.{IsBeforeHeaders, IsInOrder, IsRun, IsRunLonger, KeepsPlace, LeaveNewline}
use Rattle.keep_edit_spec.specs.Runs.{LeaveNewlineBefore, LetsCome, LetsTable, MakesChange, takes_up_to, with_line}
use Rattle.keep_edit_spec.specs.TextChanges.{Follow, IsBeside, TextChange, moved_past, text_with, with_change}
use Rattle.keep_edit_spec.specs.declared.line_kind.LineKind.{LineKind}
use Rattle.keep_edit_spec.specs.declared.line_kind.LineKind.TheVariants.{WithHeader}
use Rattle.keep_edit_spec.proofs.Shared.{all_with, change_lawful, change_put, run_goes_on}
use Rattle.keep_edit_spec.proofs.Shared.{run_goes_on_by_entry, run_is_known}
use Rattle.keep_edit_plan.proofs.Shared.{change_in, editable, one_tree}
use Rattle.keep_edit_plan.specs.TextEdits.{IsChangeIn, change_of}
use Rattle.keep_edit_plan.specs.declared.edit.Edit.{Edit}
use Rattle.keep_edit_plan.specs.declared.text_edit.TextEdit.{TextEdit}
use Rattle.keep_edit_runs.specs.AddedLines.{IsCounted, IsHeaderKnown, IsKnownAt, brought_at, is_shorter_at, lines_by}
use Rattle.keep_edit_runs.specs.Lists.{IsEdit, AreMade}
use Rattle.keep_edit_runs.specs.Newlines.{LeavesHere}
use Rattle.keep_edit_plan.specs.Reading.{limit, IsTextOfTree, ProfiledText}
use Rattle.keep_edit_runs.specs.Runs.{IsBroughtThen, IsKnownThen, IsLineKept, IsNoSecondOf, IsOfKind, IsRunTo}
use Rattle.keep_edit_runs.specs.Runs.{LeavesAlone, MakeChanges, MakesInRun}
use Rattle.keep_edit_runs.specs.Runs.{IsRenamedBy, IsSetBy, MakesInRunHere, changed_text, no_value, outlined}
use Rattle.keep_edit_runs.specs.Runs.{plain}
use Rattle.keep_edit_runs.specs.declared.added_lines.AddedLines.{AddedLines}
use Rattle.keep_edit_runs.specs.declared.outline.Outline.{Outline}
use Rattle.keep_edit_runs.proofs.MadeMore.{more_made, tree_after}
use Rattle.keep_edit_runs.proofs.NewlineSteps.{leave_here}

-- ---- edits without their values

-- What an edit leaves alone does not hang on values.
pub plain_alone : (e f : law.Edit) → runs.LeavesAlone (plain e) (plain f) → runs.LeavesAlone e f
plain_alone (law.set p v) (law.set q w) h = h
plain_alone (law.set p v) (law.insert q w) h = h
plain_alone (law.set p v) (law.rename q text) h = h
plain_alone (law.set p v) (law.remove q) h = h
plain_alone (law.set p v) (law.append_table more) h = h
plain_alone (law.set p v) (law.append_element more) h = h
plain_alone (law.insert p v) (law.set q w) h = h
plain_alone (law.insert p v) (law.insert q w) h = h
plain_alone (law.insert p v) (law.rename q text) h = h
plain_alone (law.insert p v) (law.remove q) h = h
plain_alone (law.insert p v) (law.append_table more) h = h
plain_alone (law.insert p v) (law.append_element more) h = h
plain_alone (law.rename p name) (law.set q w) h = h
plain_alone (law.rename p name) (law.insert q w) h = h
plain_alone (law.rename p name) (law.rename q text) h = h
plain_alone (law.rename p name) (law.remove q) h = h
plain_alone (law.rename p name) (law.append_table more) h = h
plain_alone (law.rename p name) (law.append_element more) h = h
plain_alone (law.remove p) (law.set q w) h = h
plain_alone (law.remove p) (law.insert q w) h = h
plain_alone (law.remove p) (law.rename q text) h = h
plain_alone (law.remove p) (law.remove q) h = h
plain_alone (law.remove p) (law.append_table more) h = h
plain_alone (law.remove p) (law.append_element more) h = h
plain_alone (law.append_table ks) (law.set q w) h = h
plain_alone (law.append_table ks) (law.insert q w) h = h
plain_alone (law.append_table ks) (law.rename q text) h = h
plain_alone (law.append_table ks) (law.remove q) h = h
plain_alone (law.append_table ks) (law.append_table more) h = h
plain_alone (law.append_table ks) (law.append_element more) h = h
plain_alone (law.append_element ks) (law.set q w) h = h
plain_alone (law.append_element ks) (law.insert q w) h = h
plain_alone (law.append_element ks) (law.rename q text) h = h
plain_alone (law.append_element ks) (law.remove q) h = h
plain_alone (law.append_element ks) (law.append_table more) h = h
plain_alone (law.append_element ks) (law.append_element more) h = h

pub plain_insert : (e : law.Edit) → runs.is_insert (plain e) ≡ runs.is_insert e
plain_insert (law.set p v) = refl
plain_insert (law.insert p v) = refl
plain_insert (law.rename p name) = refl
plain_insert (law.remove p) = refl
plain_insert (law.append_table ks) = refl
plain_insert (law.append_element ks) = refl

pub plain_header : (e : law.Edit) → runs.is_header (plain e) ≡ runs.is_header e
plain_header (law.set p v) = refl
plain_header (law.insert p v) = refl
plain_header (law.rename p name) = refl
plain_header (law.remove p) = refl
plain_header (law.append_table ks) = refl
plain_header (law.append_element ks) = refl

-- What a key is allowed by does not hang on values.
pub plain_allows : (path : List Part) (name : List ℕ) (e : law.Edit) → AllowsKey path name (plain e)
    → AllowsKey path name e
plain_allows path name (law.set p v) h = h
plain_allows path name (law.insert p v) h = h
plain_allows path name (law.rename p more) h = h
plain_allows path name (law.remove p) h = h
plain_allows path name (law.append_table ks) h = h
plain_allows path name (law.append_element ks) h = h

-- whether a header is a second one, and is known, neither
plain_second : (l : Added) (e : law.Edit) → IsNoSecondOf l (plain e) → IsNoSecondOf l e
plain_second l (law.set p v) h = h
plain_second l (law.insert p v) h = h
plain_second l (law.rename p more) h = h
plain_second l (law.remove p) h = h
plain_second l (law.append_table ks) h = h
plain_second l (law.append_element ks) h = h

pub plain_known : (added : AddedLines) (e : law.Edit) → IsHeaderKnown added (plain e) → IsHeaderKnown added e
plain_known added (law.set p v) h = h
plain_known added (law.insert p v) h = h
plain_known added (law.rename p more) h = h
plain_known added (law.remove p) h = h
plain_known added (law.append_table ks) h = h
plain_known added (law.append_element ks) h = h

-- ---- new lines and headers

-- All edits before one that writes a line or a header do so, too; or they leave the first newline, and none takes the
-- byte before its place, but for one in whose place a line comes.
pub record IsPlaced (outlines : List Outline) (now : ProfiledText) (changes : List TextChange) (x : Outline) (at : ℕ)
    : Type 0 where
  pub insert : runs.is_insert (outlined x) ≡ true
      → All (λ y. runs.is_insert (outlined y) ≡ true) outlines
      ⊎ (All (LeavesHere now) changes × All (LetsCome now.text changes at) changes)
  pub header : runs.is_header (outlined x) ≡ true
      → All (λ y. runs.is_header (outlined y) ≡ true) outlines
      ⊎ (All (LeavesHere now) changes × (list_any (takes_up_to at) changes ≡ false))

-- what is known of all of a list is known of one of them
pub in_middle : (P : TextChange → Type 0) (before after : List TextChange) (c : TextChange)
    → All P (before ++ c ∷ after) → P c
in_middle P [] after c all = All-head P c after all
in_middle P (b ∷ before) after c all = in_middle P before after c (All-tail P b (before ++ c ∷ after) all)

-- ---- the text is in UTF-8

boundary_before : (bytes : List ℕ) (from at : ℕ) → from ≤ at → at ≤ length bytes → IsCharBoundary bytes from
    → IsCharBoundary (take at bytes) from
boundary_before bytes from at low within h = (
  omega (arith, length-take-le at bytes within, low),
  λ less. subst (λ (b : ℕ). 128 ≤ b → 192 ≤ b)
      (sym (get_or-take at bytes from 0 (omega (arith, length-take-le at bytes within, less))))
      (h.1 (omega (arith, length-take-le at bytes within, less))),
)

text_utf8_from : (from : ℕ) (bytes : List ℕ) (cs : List TextChange) → IsUtf8 bytes → IsCharBoundary bytes from
    → Follow from cs → All (λ c. IsUtf8 c.new) cs → All (IsChangeIn bytes) cs → IsUtf8 (text_with from bytes cs)
text_utf8_from from bytes [] utf8 here follow fine within = IsUtf8-drop bytes from utf8 here
text_utf8_from from bytes (c ∷ cs) utf8 here follow fine within =
    let at : IsChangeIn bytes c = All-head (IsChangeIn bytes) c cs within in
    IsUtf8-append (drop from (take c.at bytes)) (c.new ++ text_with (c.at + c.size) bytes cs)
    (IsUtf8-drop (take c.at bytes) from (IsUtf8-take bytes c.at utf8 at.starts)
    (boundary_before bytes from c.at follow.0 at.starts.0 here))
    (IsUtf8-append c.new (text_with (c.at + c.size) bytes cs) (All-head (λ (d : TextChange). IsUtf8 d.new) c cs fine)
    (text_utf8_from (c.at + c.size) bytes cs utf8 at.ends follow.1
    (All-tail (λ (d : TextChange). IsUtf8 d.new) c cs fine) (All-tail (IsChangeIn bytes) c cs within)))

pub text_utf8 : (bytes : List ℕ) (cs : List TextChange) → IsUtf8 bytes → Follow 0 cs → All (λ c. IsUtf8 c.new) cs
    → All (IsChangeIn bytes) cs → IsUtf8 (text_with 0 bytes cs)
text_utf8 bytes cs utf8 = text_utf8_from 0 bytes cs utf8 (IsCharBoundary-start bytes utf8)

-- ---- one change more

-- An edit that is not refused puts its change into the text with those before it. So it is made.
module _ (s : Document) (edits : List Edit) (n : ℕ) (old now : ProfiledText) (before : Document)
    (changes : List TextChange) (read : IsTextOfTree now before)
    (so_far : AreMade s (take n edits) old (changed_text now changes)) (d x : Edit) (lt : n < length edits)
    (here : get_or edits n d ≡ x) (e : law.Edit) (given : IsEdit x e) (c : TextChange)
    (was : text so_far.tree ≡ text_with 0 (text before) changes)
    (is : text (edited_document so_far.tree e) ≡ text_with 0 (text before) (with_change changes c))
    (follow : Follow 0 (with_change changes c)) (allowed : refusal now.profile limit so_far.tree e ≡ None)
    (lawful : IsLawfulEdit now.profile limit so_far.tree e) (utf8 : All (λ b. IsUtf8 b.new) (with_change changes c))
    (within : All (IsChangeIn now.text) (with_change changes c)) where
  abbrev with_it : List ℕ
  with_it = text_with 0 now.text (with_change changes c)

  with_it_utf8 : IsUtf8 with_it
  with_it_utf8 = text_utf8 now.text (with_change changes c) read.utf8 follow utf8 within

  -- the text is the one before with the change in it
  with_it_is : with_it ≡ put (text_with 0 now.text changes) (place so_far.tree e)
  with_it_is =
      ap (λ (b : List ℕ). text_with 0 b (with_change changes c)) read.reads.spelled
      ∙ sym is ∙ change_put so_far.tree e
      ∙ ap (λ (b : List ℕ). put b (place so_far.tree e))
      (was ∙ ap (λ (b : List ℕ). text_with 0 b changes) (sym read.reads.spelled))

  pub change_made : AreMade s (take (suc n) edits) old (changed_text now (with_change changes c))
  change_made = more_made (changed_text now changes) so_far.tree e so_far.read lawful with_it with_it_utf8 with_it_is s
      edits n old d x lt here given so_far refl allowed

  -- and its document is the edited one
  pub tree_made : edited_document so_far.tree e ≡ change_made.tree
  tree_made = tree_after (changed_text now changes) so_far.tree e so_far.read lawful with_it with_it_utf8 with_it_is
      change_made.tree change_made.read

-- ---- the document after a run

module _ (s : Document) (edits : List Edit) (n : ℕ) (old now : ProfiledText) (before : Document)
    (outlines : List Outline) (changes : List TextChange) (adds : AddedLines) (read : IsTextOfTree now before)
    (h : IsRunTo s edits n old now before outlines changes adds) where
  pub run_so_far : IsRun now.profile limit before (seen_of before h.ms) changes (lines_of before h.ms) h.made.tree
  run_so_far =
      subst (IsRun now.profile limit before (seen_of before h.ms) changes (lines_of before h.ms)) h.tree_is
      (subst
      (λ (cs : List TextChange).
      IsRun now.profile limit before (seen_of before h.ms) cs (lines_of before h.ms) (document_after before h.ms))
      h.changes_are
      (run_is_known now.profile limit before h.ms (editable now before read) h.at_once))

-- the document after edits that are made at once is that of the text with their changes
pub tree_of_run : (now : ProfiledText) (before : Document) (ms : List MadeEdit) (changes : List TextChange)
    (u : Document)
    → IsTextOfTree now before → AreAtOnce now.profile limit before ms → changes_of ms ≡ changes
    → IsTextOfTree (changed_text now changes) u → document_after before ms ≡ u
tree_of_run now before ms changes u read at_once same made =
    let r : IsRun now.profile limit before (seen_of before ms) (changes_of ms) (lines_of before ms)
    (document_after before ms) =
    run_is_known now.profile limit before ms (editable now before read) at_once in
    let spelled : text_with 0 now.text changes ≡ text (document_after before ms) =
    ap (λ (bytes : List ℕ). text_with 0 bytes changes) read.reads.spelled
    ∙ ap (λ (cs : List TextChange). text_with 0 (text before) cs) (sym same) ∙ sym r.text in
    one_tree (changed_text now changes) (document_after before ms) u (record {
      utf8 = made.utf8;
      reads = record { valid = r.editable.valid; spelled = spelled; shallow = r.editable.shallow };
      obeys = r.editable.obeys;
    }) made

-- ---- one more

-- what holds of all of a list holds of all before its last one, and of that
pub parts : (P : Outline → Type 0) (xs : List Outline) (x : Outline) → All P (xs ++ x ∷ []) → All P xs × P x
parts P [] x h = (All-nil P, All-head P x [] h)
parts P (y ∷ xs) x h =
    let (others, here) = parts P xs x (All-tail P y (xs ++ x ∷ []) h) in
    (All-cons P y xs (All-head P y (xs ++ x ∷ []) h) others, here)

-- what holds of one of a list holds of one before its last, or of that
pub one_or_more : (P : Outline → Type 0) (xs : List Outline) (x : Outline) → Any P (xs ++ x ∷ []) → Any P xs ⊎ P x
one_or_more P [] x (zero, y, less, is, holds) = inr (subst P (sym is) holds)
one_or_more P [] x (suc k, y, less, is, holds) = absurd (omega (arith, less))
one_or_more P (z ∷ xs) x (zero, y, less, is, holds) = inl (0, y, omega arith, is, holds)
one_or_more P (z ∷ xs) x (suc k, y, less, is, holds) =
    elim (one_or_more P xs x (k, y, omega (arith, less), is, holds)) [
      | inl (n, w, low, same, one) ↦ inl (suc n, w, omega (arith, low), same, one)
      | inr its ↦ inr its
    ]

-- an edit that is a set but for its value
set_of : (e : law.Edit) (path : List Part) → plain e ≡ law.set path no_value
    → (value : Value) × (e ≡ law.set path value)
set_of (law.set p v) path is = (v, ap (λ (q : List Part). law.set q v) cc)
set_of (law.insert p v) path is = absurd cc
set_of (law.rename p name) path is = absurd cc
set_of (law.remove p) path is = absurd cc
set_of (law.append_table ks) path is = absurd cc
set_of (law.append_element ks) path is = absurd cc

-- a set is seen as itself, and so is a rename
set_seen : (s : Document) (e : law.Edit) (path : List Part) → plain (runs.seen s e) ≡ law.set path no_value
    → (value : Value) × (e ≡ law.set path value)
set_seen s (law.set p v) path is = set_of (law.set p v) path is
set_seen s (law.insert p v) path is = absurd cc
set_seen s (law.rename p name) path is = absurd cc
set_seen s (law.remove p) path is = absurd cc
set_seen s (law.append_table ks) path is = absurd cc
set_seen s (law.append_element ks) path is = absurd cc

rename_seen : (s : Document) (e : law.Edit) (path : List Part) (name : List ℕ)
    → plain (runs.seen s e) ≡ law.rename path name → e ≡ law.rename path name
rename_seen s (law.set p v) path name is = absurd cc
rename_seen s (law.insert p v) path name is = absurd cc
rename_seen s (law.rename p more) path name is = is
rename_seen s (law.remove p) path name is = absurd cc
rename_seen s (law.append_table ks) path name is = absurd cc
rename_seen s (law.append_element ks) path name is = absurd cc

-- ---- one of the edits

-- what holds of all edits holds of one of them, and of the others
pub made_apart : (P : MadeEdit → Type 0) (m : MadeEdit) (later earlier : List MadeEdit)
    → All P (later ++ m ∷ earlier) → P m × All P (later ++ earlier)
made_apart P m [] earlier h = (All-head P m earlier h, All-tail P m earlier h)
made_apart P m (x ∷ later) earlier h =
    let (one, rest) = made_apart P m later earlier (All-tail P x (later ++ m ∷ earlier) h) in
    (one, All-cons P x (later ++ earlier) (All-head P x (later ++ m ∷ earlier) h) rest)

pub made_of_others : (P : MadeEdit → Type 0) (m : MadeEdit) (ms rest : List MadeEdit) → IsOneOf m ms rest → All P ms
    → P m × All P rest
made_of_others P m ms rest one h =
    let (its, others) = made_apart P m one.later one.earlier (subst (All P) one.all h) in
    (its, subst (All P) (sym one.others) others)

-- ---- a new line or header more

-- how much an element counts
abbrev pub one_if : Bool → ℕ
one_if b = cond b 1 0

-- one element more is counted, or not
pub counted_more : {A : Type 0} (p : A → Bool) (x : A) (xs : List A)
    → count_by p (x ∷ xs) ≡ one_if (p x) + count_by p xs
counted_more p x xs = sum_by-cons (λ y. one_if (p y)) x xs

-- as it is alone
counted_alone : {A : Type 0} (p : A → Bool) (x : A) (xs : List A)
    → count_by p (x ∷ xs) ≡ count_by p (x ∷ []) + count_by p xs
counted_alone p x xs = omega (arith, counted_more p x xs, counted_more p x [])

-- where none of them is counted, each is none of those,
pub each_uncounted : (p : law.Edit → Bool) (es : List law.Edit) → count_by p es ≡ 0 → All (λ e. p e ≡ false) es
each_uncounted p [] none = All-nil (λ e. p e ≡ false)
each_uncounted p (e ∷ es) none =
    All-cons (λ f. p f ≡ false) e es (its (p e) (omega (arith, none, counted_more p e es)))
    (each_uncounted p es (omega (arith, none, counted_more p e es)))
  where
    its : (b : Bool) → one_if b ≡ 0 → b ≡ false
    its false is = refl
    its true is = absurd (omega (arith, is))

-- and none is there
none_counted : (p : law.Edit → Bool) (es : List law.Edit) → count_by p es ≡ 0 → list_any p es ≡ false
none_counted p es none = list_any_none p es (each_uncounted p es none)

-- A line comes before headers that are appended, where none is counted, or elsewhere.
pub before_headers : (bytes : List ℕ) (es : List law.Edit) (at : ℕ) (adds : AddedLines)
    → count_by runs.is_header es ≡ adds.appended → (at ≢ length bytes) ⊎ (adds.appended ≡ 0)
    → IsBeforeHeaders bytes es at
before_headers bytes es at adds counted (inl other) = inr other
before_headers bytes es at adds counted (inr none) = inl (none_counted runs.is_header es (counted ∙ none))

-- what holds of one of the lines does so with one more before them
pub any_later : (P : Added → Type 0) (l : Added) (lines : List Added) → Any P lines → Any P (l ∷ lines)
any_later P l lines (k, it, less, is, holds) = (suc k, it, omega (arith, less), is, holds)

-- The line of an insert, or a header, comes in order after edits that are seen so, and add lines and headers that are
-- known.
module _ (before : Document) (es : List law.Edit) (changes : List TextChange) (lines : List Added)
    (adds next_adds : AddedLines) (o : Outline) (a : law.Edit) (plain_is : plain a ≡ outlined o) (c : TextChange)
    (line : Option LineKind) (kept : IsLineKept adds changes o c.at line next_adds)
    (headers_known : All (IsHeaderKnown adds) es) (known : All (IsKnownAt adds) lines) where
  -- the line of an insert, as the code knows it
  abbrev line_then : List Part → Added
  line_then p = added_as before p c

  outlined_is : (p : List Part) (v : Value) → a ≡ runs.seen before (law.insert p v)
      → outlined o ≡ law.insert (first_new before p) no_value
  outlined_is p v is = sym plain_is ∙ ap plain is

  known_then : (p : List Part) (v : Value) → a ≡ runs.seen before (law.insert p v) → line ≡ Some (kind_of before p)
      → IsKnownThen adds changes (line_then p) next_adds
  known_then p v is of = kept.own (first_new before p) (kind_of before p) (outlined_is p v is) of

  pub order : (p : List Part) (v : Value) → a ≡ runs.seen before (law.insert p v) → line ≡ Some (kind_of before p)
      → IsInOrder es changes lines (line_then p)
  order p v is of = record {
    after = All-weaker (IsKnownAt adds) (λ l. IsAfterLine l (line_then p)) (known_then p v is of).after lines known;
    stays = (known_then p v is of).stays;
    passed = All-weaker (IsHeaderKnown adds) (LetsTable (line_then p)) (known_then p v is of).passed es headers_known;
  }

  -- a header that is appended is no second one of the tables of the lines with headers
  pub passes : All (λ l. IsNoSecondOf l a) lines
  passes =
      All-weaker (IsKnownAt adds) (λ l. IsNoSecondOf l a)
      (λ l its. plain_second l a (subst (IsNoSecondOf l) (sym plain_is) (kept.passes l its))) lines known

  -- and is known too
  pub headers_with : All (IsHeaderKnown next_adds) (a ∷ es)
  headers_with =
      All-cons (IsHeaderKnown next_adds) a es
      (plain_known next_adds a (subst (IsHeaderKnown next_adds) (sym plain_is) kept.header))
      (All-weaker (IsHeaderKnown adds) (IsHeaderKnown next_adds) kept.headers es headers_known)

  others_known : All (IsKnownAt next_adds) lines
  others_known = All-weaker (IsKnownAt adds) (IsKnownAt next_adds) kept.others lines known

  -- its line is known too, if it adds one
  pub known_with : (f : law.Edit) → runs.seen before f ≡ a → IsOfKind before f line
      → All (IsKnownAt next_adds) (with_line before f c lines)
  known_with (law.insert p v) same of =
      All-cons (IsKnownAt next_adds) (line_then p) lines (known_then p v (sym same) of).here others_known
  known_with (law.set p v) same of = others_known
  known_with (law.rename p name) same of = others_known
  known_with (law.remove p) same of = others_known
  known_with (law.append_table ks) same of = others_known
  known_with (law.append_element ks) same of = others_known

  -- and counted
  abbrev one_counted : (Added → Bool) → law.Edit → Option LineKind → Type 0
  one_counted p g k =
      count_by p (with_line before g c lines)
      ≡ count_by p (lines_by (plain (runs.seen before g)) c.at k) + count_by p lines

  line_counted : (p : Added → Bool) (f : law.Edit) → runs.seen before f ≡ a → IsOfKind before f line
      → count_by p (with_line before f c lines) ≡ count_by p (lines_by (outlined o) c.at line) + count_by p lines
  line_counted p f same of =
      subst
      (λ (g : law.Edit).
      count_by p (with_line before f c lines) ≡ count_by p (lines_by g c.at line) + count_by p lines)
      (ap plain same ∙ plain_is) (by f line of)
    where
      by : (g : law.Edit) (k : Option LineKind) → IsOfKind before g k → one_counted p g k
      by (law.insert q v) k own =
          subst (one_counted p (law.insert q v)) (sym own) (counted_alone p (line_then q) lines)
      by (law.set q v) None own = omega arith
      by (law.set q v) (Some k) own = omega arith
      by (law.rename q name) None own = omega arith
      by (law.rename q name) (Some k) own = omega arith
      by (law.remove q) None own = omega arith
      by (law.remove q) (Some k) own = omega arith
      by (law.append_table ks) None own = omega arith
      by (law.append_table ks) (Some k) own = omega arith
      by (law.append_element ks) None own = omega arith
      by (law.append_element ks) (Some k) own = omega arith

  pub counted_with : IsCounted adds lines es → (f : law.Edit) → runs.seen before f ≡ a → IsOfKind before f line
      → IsCounted next_adds (with_line before f c lines) (runs.seen before f ∷ es)
  counted_with counts f same of = record {
    shorter = λ most n. omega (
      arith,
      line_counted (is_shorter_at most n) f same of,
      counts.shorter most n,
      kept.counts.shorter most n,
    );
    ends = λ n. omega (arith, line_counted (is_end_at n) f same of, counts.ends n, kept.counts.ends n);
    headed = λ n. omega (arith, line_counted (is_headed_at n) f same of, counts.headed n, kept.counts.headed n);
    appended =
        let alike : runs.is_header (runs.seen before f) ≡ runs.is_header (outlined o) =
        ap runs.is_header same ∙ sym (plain_header a) ∙ ap runs.is_header plain_is in
        omega (
          arith,
          counted_more runs.is_header (runs.seen before f) es,
          counted_more runs.is_header (outlined o) [],
          ap one_if alike,
          counts.appended,
          kept.counts.appended,
        );
  }

  -- and its header comes there, if it brings one
  pub headed_with : (f : law.Edit) → runs.seen before f ≡ a → IsOfKind before f line → (n : ℕ) (table : List Part)
      → ((q : List Part) → brought_at adds n ≡ Some q → Any (IsHeaderAt n) lines)
      → brought_at next_adds n ≡ Some table → Any (IsHeaderAt n) (with_line before f c lines)
  headed_with f same of n table headed there = by f same of (kept.brought n table there)
    where
      other : {A : Type 0} (g : law.Edit) → runs.seen before g ≡ a → (first : List Part)
          → outlined o ≡ law.insert first no_value → (plain (runs.seen before g) ≡ law.insert first no_value → ⊥) → A
      other g own first is never = absurd (never (ap plain own ∙ plain_is ∙ is))

      by : (g : law.Edit) → runs.seen before g ≡ a → IsOfKind before g line → IsBroughtThen adds o c.at line n table
          → Any (IsHeaderAt n) (with_line before g c lines)
      by (law.insert p v) own of (inl was) = any_later (IsHeaderAt n) (line_then p) lines (headed table was)
      by (law.insert p v) own of (inr (at, (with_it, (first, is)))) =
          let both : Some (kind_of before p) ≡ Some WithHeader = sym of ∙ with_it in
          (zero, line_then p, omega arith, refl, (sym at, cc))
      by (law.set p v) own of (inl was) = headed table was
      by (law.rename p name) own of (inl was) = headed table was
      by (law.remove p) own of (inl was) = headed table was
      by (law.append_table ks) own of (inl was) = headed table was
      by (law.append_element ks) own of (inl was) = headed table was
      by (law.set p v) own of (inr (at, (with_it, (first, is)))) = other (law.set p v) own first is (λ e. cc)
      by (law.rename p name) own of (inr (at, (with_it, (first, is)))) =
          other (law.rename p name) own first is (λ e. cc)
      by (law.remove p) own of (inr (at, (with_it, (first, is)))) = other (law.remove p) own first is (λ e. cc)
      by (law.append_table ks) own of (inr (at, (with_it, (first, is)))) =
          other (law.append_table ks) own first is (λ e. cc)
      by (law.append_element ks) own of (inr (at, (with_it, (first, is)))) =
          other (law.append_element ks) own first is (λ e. cc)

-- one edit more, which others see so: another edit, which makes this change, makes of the first document what it makes
record IsLonger (profile : Profile) (s : Document) (es : List law.Edit) (changes : List TextChange)
    (lines : List Added) (now : Document) (e a : law.Edit) (c : TextChange) (line : Option LineKind) : Type 0 where
  edit : law.Edit
  seen_is : runs.seen s edit ≡ a
  makes : MakesChange profile limit s edit c
  of : IsOfKind s edit line
  keeps : KeepsPlace s es changes lines edit c
  allowed : refusal profile limit now e ≡ None
  lawful : IsLawfulEdit profile limit now e
  run : IsRun profile limit s (a ∷ es) (with_change changes c) (with_line s edit c lines) (edited_document now e)

module _ (profile : Profile) (s : Document) (es : List law.Edit) (changes : List TextChange) (lines : List Added)
    (now : Document) (e a : law.Edit) (c : TextChange) (line : Option LineKind)
    (r : IsRun profile limit s es changes lines now) (alone : All (λ f. runs.LeavesAlone f a) es)
    (beside : All (λ d. IsBeside d c) changes) where
  abbrev Longer : Type 0
  Longer = IsLonger profile s es changes lines now e a c line

  longer_by_itself : a ≡ runs.seen s e → MakesChange profile limit s e c → IsOfKind s e line
      → KeepsPlace s es changes lines e c → Longer
  longer_by_itself is makes of placed =
      let others : All (λ f. runs.LeavesAlone f (runs.seen s e)) es =
      subst (λ (b : law.Edit). All (λ f. runs.LeavesAlone f b) es) is alone in
      let longer : IsRunLonger profile limit s es changes lines now e c =
      run_goes_on profile limit s es changes lines now e c r makes others beside placed in
      subst (λ (b : law.Edit). IsLonger profile s es changes lines now e b c line) (sym is) (record {
        edit = e;
        seen_is = refl;
        makes = makes;
        of = of;
        keeps = placed;
        allowed = longer.allowed;
        lawful = change_lawful profile limit now e (moved_past changes c) r.editable
            (r.later e c makes others beside placed).0;
        run = longer.run;
      })

  longer_by_set : (holder : List Part) (value : Value) → a ≡ law.set holder value
      → MakesSet profile limit s e holder value c → Longer
  longer_by_set holder value is h =
      let longer : IsRunLongerByEntry profile limit s es changes lines now e holder value c =
      run_goes_on_by_entry profile limit s es changes lines now e holder value c r h
      (subst (λ (g : law.Edit). All (λ f. runs.LeavesAlone f g) es) is alone) beside in
      subst (λ (g : law.Edit). IsLonger profile s es changes lines now e g c line) (sym is)
      (record {
        edit = law.set holder value;
        seen_is = refl;
        makes = h.sets;
        of = tt;
        keeps = tt;
        allowed = longer.allowed;
        lawful = longer.lawful;
        run = longer.run;
      })

  goes_on_by : (a ≡ runs.seen s e → IsOfKind s e line → KeepsPlace s es changes lines e c)
      → MakesInRun profile s e a c line → Longer
  goes_on_by placed (inl (is, h, of)) = longer_by_itself is h of (placed is of)
  goes_on_by placed (inr (holder, value, is, h)) = longer_by_set holder value is h

module _ (s : Document) (edits : List Edit) (n : ℕ) (old now : ProfiledText) (before : Document)
    (outlines : List Outline) (changes : List TextChange) (adds next_adds : AddedLines)
    (read : IsTextOfTree now before) (h : IsRunTo s edits n old now before outlines changes adds) (d x : Edit)
    (lt : n < length edits) (here : get_or edits n d ≡ x) (o : Outline) (e a : law.Edit) (given : IsEdit x e)
    (plain_is : plain a ≡ outlined o) (c : TextChange) (line : Option LineKind)
    (makes : MakesInRun now.profile before e a c line) (others_alone : All (λ y. LeavesAlone y o) outlines)
    (beside : All (λ b. IsBeside b c) changes) (placed : IsPlaced outlines now changes o c.at)
    (kept : IsLineKept adds changes o c.at line next_adds)
    (ends : (kind : LineKind) → line ≡ Some kind → (c.at ≢ length now.text) ⊎ (adds.appended ≡ 0))
    (utf8 : All (λ b. IsUtf8 b.new) (with_change changes c))
    (within : All (IsChangeIn now.text) (with_change changes c)) where
  abbrev t : Document
  t = h.made.tree

  abbrev es : List law.Edit
  es = seen_of before h.ms

  abbrev lines : List Added
  lines = lines_of before h.ms

  so_far : IsRun now.profile limit before es changes lines t
  so_far = run_so_far s edits n old now before outlines changes adds read h

  others : All (λ f. runs.LeavesAlone f a) es
  others =
      h.alone a
      (subst (λ (g : law.Edit). All (λ y. runs.LeavesAlone (outlined y) g) outlines) (sym plain_is) others_alone)

  in_order : (p : List Part) (v : Value) → a ≡ runs.seen before (law.insert p v) → line ≡ Some (kind_of before p)
      → IsInOrder es changes lines (added_as before p c)
  in_order = order before es changes lines adds next_adds o a plain_is c line kept h.headers_known h.lines

  pass : (f : law.Edit) → a ≡ f → All (λ l. IsNoSecondOf l f) lines
  pass f same =
      subst (λ (g : law.Edit). All (λ l. IsNoSecondOf l g) lines) same
      (passes before es changes lines adds next_adds o a plain_is c line kept h.headers_known h.lines)

  keeps : a ≡ runs.seen before e → IsOfKind before e line → KeepsPlace before es changes lines e c
  keeps is of =
      by e is of (ap runs.is_insert (sym plain_is) ∙ plain_insert a) (ap runs.is_header (sym plain_is) ∙ plain_header a)
    where
      all_inserts : IsBeforeHeaders now.text es c.at → (All (λ y. runs.is_insert (outlined y) ≡ true) outlines
          ⊎ (All (LeavesHere now) changes × All (LetsCome now.text changes c.at) changes))
          → All (λ f. IsTrue (runs.is_insert f)) es
          ⊎ (LeaveNewline before changes × (All (LetsCome (text before) changes c.at) changes
          × IsBeforeHeaders (text before) es c.at))
      all_inserts headers (inl all) = inl (h.inserts all)
      all_inserts headers (inr (leave, come)) = inr (
        leave_here now before read changes leave,
        subst (λ (bytes : List ℕ). All (LetsCome bytes changes c.at) changes × IsBeforeHeaders bytes es c.at)
            read.reads.spelled (come, headers),
      )

      all_headers : (All (λ y. runs.is_header (outlined y) ≡ true) outlines
          ⊎ (All (LeavesHere now) changes × (list_any (takes_up_to c.at) changes ≡ false)))
          → All (λ f. IsTrue (runs.is_header f)) es ⊎ LeaveNewlineBefore before changes c.at
      all_headers (inl all) = inl (h.headers all)
      all_headers (inr (leave, none)) = inr (leave_here now before read changes leave, none)

      by : (f : law.Edit) → a ≡ runs.seen before f → IsOfKind before f line
          → runs.is_insert (outlined o) ≡ runs.is_insert a → runs.is_header (outlined o) ≡ runs.is_header a
          → KeepsPlace before es changes lines f c
      by (law.insert p v) same of insert header = (
        in_order p v same of,
        all_inserts (before_headers now.text es c.at adds h.counts.appended (ends (kind_of before p) of))
            (placed.insert (insert ∙ ap runs.is_insert same)),
      )
      by (law.remove p) same of insert header = tt
      by (law.set p v) same of insert header = tt
      by (law.rename p name) same of insert header = tt
      by (law.append_table ks) same of insert header =
          (pass (law.append_table ks) same, all_headers (placed.header (header ∙ ap runs.is_header same)))
      by (law.append_element ks) same of insert header =
          (pass (law.append_element ks) same, all_headers (placed.header (header ∙ ap runs.is_header same)))

  longer : IsLonger now.profile before es changes lines t e a c line
  longer = goes_on_by now.profile before es changes lines t e a c line so_far others beside keeps makes

  made : AreMade s (take (suc n) edits) old (changed_text now (with_change changes c))
  made = change_made s edits n old now before changes read h.made d x lt here e given c so_far.text longer.run.text
      longer.run.follow longer.allowed longer.lawful utf8 within

  -- with it in front
  abbrev ms : List MadeEdit
  ms = record { edit = longer.edit; change = c } ∷ h.ms

  at_once : AreAtOnce now.profile limit before ms
  at_once = (
    inl (
      longer.makes,
      subst (λ (cs : List TextChange). KeepsPlace before es cs lines longer.edit c) (sym h.changes_are) longer.keeps,
    ),
    (
      subst (λ (g : law.Edit). All (λ f. runs.LeavesAlone f g) es) (sym longer.seen_is) others,
      (subst (All (λ b. IsBeside b c)) (sym h.changes_are) beside, h.at_once),
    ),
  )

  -- its line is known too, if it adds one
  lines_known : All (IsKnownAt next_adds) (lines_of before ms)
  lines_known =
      known_with before es changes lines adds next_adds o a plain_is c line kept h.headers_known h.lines longer.edit
      longer.seen_is longer.of

  -- of all edits as they are seen
  all_seen : (P : law.Edit → Type 0) → P a → All P es → All P (seen_of before ms)
  all_seen P its others = All-cons P (runs.seen before longer.edit) es (subst P (sym longer.seen_is) its) others

  set_in : (path : List Part) → IsSetBy (outlines ++ o ∷ []) path → IsSetIn path ms
  set_in path any = elim (one_or_more (λ y. outlined y ≡ law.set path no_value) outlines o any) [
    | inl earlier ↦ inr (h.sets path earlier)
    | inr its ↦ inl (set_seen before longer.edit path (ap plain longer.seen_is ∙ plain_is ∙ its))
  ]

  rename_in : (path : List Part) (name : List ℕ) → IsRenamedBy (outlines ++ o ∷ []) path name → IsRenameIn path ms
  rename_in path name any = elim (one_or_more (λ y. outlined y ≡ law.rename path name) outlines o any) [
    | inl earlier ↦ inr (h.renames path name earlier)
    | inr its ↦ inl (name, rename_seen before longer.edit path name (ap plain longer.seen_is ∙ plain_is ∙ its))
  ]

  pub one_made_more : IsRunTo s edits (suc n) old now before (outlines ++ o ∷ []) (with_change changes c) next_adds
  one_made_more = record {
    made = made;
    ms = ms;
    alone = λ f all.
        let (all_before, its) = parts (λ y. runs.LeavesAlone (outlined y) (plain f)) outlines o all in
        all_seen (λ g. runs.LeavesAlone g f)
        (plain_alone a f (subst (λ (g : law.Edit). runs.LeavesAlone g (plain f)) (sym plain_is) its))
        (h.alone f all_before);
    inserts = λ all.
        let (all_before, its) = parts (λ y. runs.is_insert (outlined y) ≡ true) outlines o all in
        all_seen (λ g. IsTrue (runs.is_insert g))
        (sym (plain_insert a) ∙ ap runs.is_insert plain_is ∙ its) (h.inserts all_before);
    headers = λ all.
        let (all_before, its) = parts (λ y. runs.is_header (outlined y) ≡ true) outlines o all in
        all_seen (λ g. IsTrue (runs.is_header g))
        (sym (plain_header a) ∙ ap runs.is_header plain_is ∙ its) (h.headers all_before);
    sets = set_in;
    renames = rename_in;
    allow = λ path name all.
        let (all_before, its) = parts (λ y. AllowsKey path name (outlined y)) outlines o all in
        all_seen (AllowsKey path name)
        (plain_allows path name a (subst (AllowsKey path name) (sym plain_is) its)) (h.allow path name all_before);
    lines = lines_known;
    counts = counted_with before es changes lines adds next_adds o a plain_is c line kept h.headers_known h.lines
        h.counts longer.edit longer.seen_is longer.of;
    followed = λ none.
        All-cons (λ m. MakesChange now.profile limit before m.edit m.change)
        (record { edit = longer.edit; change = c }) h.ms longer.makes (h.followed (sym kept.follower ∙ none));
    headed = λ i table there.
        headed_with before es changes lines adds next_adds o a plain_is c line kept h.headers_known h.lines longer.edit
        longer.seen_is longer.of i table (h.headed i) there;
    headers_known = subst (λ (g : law.Edit). All (IsHeaderKnown next_adds) (g ∷ es)) (sym longer.seen_is)
        (headers_with before es changes lines adds next_adds o a plain_is c line kept h.headers_known h.lines);
    at_once = at_once;
    changes_are = ap (λ (cs : List TextChange). with_change cs c) h.changes_are;
    tree_is = tree_of_run now before ms (with_change changes c) made.tree read at_once
        (ap (λ (cs : List TextChange). with_change cs c) h.changes_are) made.read;
  }

-- ---- as the code goes

-- So far these changes are made, and the edits up to number `end` are made by them, which have these outlines, and
-- whose lines and headers are known.
pub record AreMadeTo (edits : List Edit) (first end : ℕ) (now : ProfiledText) (outlines : List Outline)
    (changes : List TextChange) (adds : AddedLines) : Type 0 where
  pub made : (s : Document) (old : ProfiledText) → (h : AreMade s (take first edits) old now)
      → IsRunTo s edits end old now h.tree outlines changes adds
  pub within : All (IsChangeIn now.text) changes
  pub utf8 : All (λ c. IsUtf8 c.new) changes

pub no_changes : (edits : List Edit) (first : ℕ) (now : ProfiledText) (adds : AddedLines)
    → ((n : ℕ) → brought_at adds n ≡ None) → IsCounted adds [] [] → AreMadeTo edits first first now [] [] adds
no_changes edits first now adds free counts = record {
  made = λ s old h. record {
    made = h;
    ms = [];
    alone = λ f all. All-nil (λ e. runs.LeavesAlone e f);
    inserts = λ all. All-nil (λ e. IsTrue (runs.is_insert e));
    headers = λ all. All-nil (λ e. IsTrue (runs.is_header e));
    sets = λ path (k, x, less, is, holds). absurd (omega (arith, less));
    renames = λ path name (k, x, less, is, holds). absurd (omega (arith, less));
    allow = λ path name all. All-nil (AllowsKey path name);
    lines = All-nil (IsKnownAt adds);
    headed = λ n table there. absurd (let both : None ≡ Some table = sym (free n) ∙ there in cc);
    counts = counts;
    followed = λ none. All-nil (λ m. MakesChange now.profile limit h.tree m.edit m.change);
    headers_known = All-nil (IsHeaderKnown adds);
    at_once = tt;
    changes_are = refl;
    tree_is = refl;
  };
  within = All-nil (IsChangeIn now.text);
  utf8 = All-nil (λ c. IsUtf8 c.new);
}

pub more_changes : (edits : List Edit) (first end : ℕ) (now : ProfiledText) (outlines : List Outline)
    (changes : List TextChange) (adds next : AddedLines) (d x : Edit) (o : Outline) (t : TextEdit)
    (line : Option LineKind)
    → AreMadeTo edits first end now outlines changes adds → end < length edits → get_or edits end d ≡ x
    → MakesInRunHere now x (outlined o) t line → All (λ y. LeavesAlone y o) outlines
    → All (λ b. IsBeside b (change_of t)) changes → IsPlaced outlines now changes o (change_of t).at
    → IsLineKept adds changes o (change_of t).at line next
    → ((kind : LineKind) → line ≡ Some kind → ((change_of t).at ≢ length now.text) ⊎ (adds.appended ≡ 0))
    → AreMadeTo edits first (suc end) now (outlines ++ o ∷ []) (with_change changes (change_of t)) next
more_changes edits first end now outlines changes adds next d x o t line so_far lt here makes alone beside placed
    kept ends =
    let c : TextChange = change_of t in
    let utf8 = all_with (λ b. IsUtf8 b.new) changes c so_far.utf8 (IsUtf8-string_bytes t.new) in
    let within = all_with (IsChangeIn now.text) changes c so_far.within (change_in now.text t makes.within) in
    record {
      made = λ s old h. one_made_more s edits end old now h.tree outlines changes adds next h.read
          (so_far.made s old h) d x lt here o makes.edit (makes.in_run h.tree) makes.is
          (makes.outline_is h.tree h.read) c line (makes.makes h.tree h.read) alone beside placed kept ends utf8 within;
      within = within;
      utf8 = utf8;
    }

-- So all edits that the changes are of are made by them.
pub all_made : (edits : List Edit) (first : ℕ) (now : ProfiledText) (outlines : List Outline)
    (changes : List TextChange) (adds : AddedLines) → {end to : ℕ} {its : List TextChange}
    → AreMadeTo edits first end now outlines changes adds → its ≡ changes → to ≡ end
    → MakeChanges edits first to now its
all_made edits first now outlines changes adds so_far same there s old h =
    subst₂ (λ (n : ℕ) (cs : List TextChange). AreMade s (take n edits) old (changed_text now cs)) (sym there) (sym same)
    (so_far.made s old h).made

-- And the changes are in the text.
pub all_within : (edits : List Edit) (first : ℕ) (now : ProfiledText) (outlines : List Outline)
    (changes : List TextChange) (adds : AddedLines) → {end : ℕ} {its : List TextChange}
    → AreMadeTo edits first end now outlines changes adds → its ≡ changes → All (IsChangeIn now.text) its
all_within edits first now outlines changes adds so_far same =
    subst (All (IsChangeIn now.text)) (sym same) so_far.within

-- A change that is not added leaves the list as it is.
pub unadded : (P : List TextChange → Type 0) (r : Result Bool AllocError) (old with_it now : List TextChange)
    → IfOk r (λ added. now ≡ (if added then with_it else old)) → OnErr r (now ≡ old)
    → result_unwrap_or r false ≡ false → P old → P now
unadded P (Ok false) old with_it now is same e h = subst P (sym is) h
unadded P (Ok true) old with_it now is same e h = absurd cc
unadded P (Err f) old with_it now is same e h = subst P (sym same) h

-- One that is added comes in, beside all others.
pub added : (r : Result Bool AllocError) (old with_it now : List TextChange) (Q : Type 0)
    → IfOk r (λ added. Decides added Q) → IfOk r (λ added. now ≡ (if added then with_it else old))
    → result_unwrap_or r false ≡ true → Q × (now ≡ with_it)
added (Ok true) old with_it now Q decides is e = (decides.0 refl, is)
added (Ok false) old with_it now Q decides is e = absurd cc
added (Err f) old with_it now Q decides is e = absurd cc
