-- Edits of a list that append tables and elements and insert keys into the last of them: the edits so far are made in
-- the document's text, with what they write at its end.
--
-- A header lets a table come after it if the number of the table's keys is that of nothing that its own keys begin
-- with (`not_below`); a key or an array does if its number is that of nothing that the table's keys begin with
-- (`not_above`). An element of another array comes where no header before it begins with the first of its keys
-- (`lets_element`); none before it is of its array then (`none_among`). One more of an array of which one came has the
-- number after the last of them, which is kept of each array (`after_element`): all others let it come, since they let
-- the earlier one (`of_one_that_came`). A key is new in the last one if its path has another number than those before
-- it. By the laws of such runs one more is then not refused, and comes after the others. So the edits up to it are
-- made, as in RunSteps.
--
-- Theorems: `no_tables`, `tables_more`: before the first edit, and with one more; `filled_made`, `filled_within`: so
-- all are made.
use Rattle.std.proofs.Common.{◌≡◌, ◌≢◌, ◌∙◌, ◌∷◌, ◌++◌, ◌+◌, ◌-◌, ◌<◌, [], All, Bool, Bor, Global, IsUtf8, List}
use Rattle.std.proofs.Common.{None, Some, String, ap, arith, cond, false, get_or, inl, inr, length, map, refl}
use Rattle.std.proofs.Common.{eqb-true, subst, suc, sym, take, true, ℕ}
use Rattle.std.specs.Prelude.{◌==◌, Any, IfSome, Option}
use Rattle.std.proofs.lemmas.Bool.{eq-eqb}
use Rattle.std.proofs.lemmas.List.{take_all}
use Rattle.std.proofs.lemmas.List.Elements.{All-cons, All-head, All-nil, All-tail, All-weaker}
use Rattle.std.proofs.lemmas.List.Sums.{sum_by-cons}
use Rattle.std.proofs.lemmas.Option.{slice_get_within}
use Rattle.std.proofs.lemmas.Str.{IsUtf8-string_bytes}
use Rattle.keep_types.specs.declared.leaf.Profile.{Profile}
use Rattle.keep_syntax.specs.Tree.{Document, Value}
use Rattle.keep_meaning.specs.Marks.{Mention, elements_of}
use Rattle.keep_meaning.specs.Meaning.{mentions_in}
use Rattle.keep_meaning.specs.Nodes.{is_node}
use Rattle.keep_path.specs.Path.{Part, key, same_path, strip, without_last}
use Rattle.keep_edit_spec.specs.AppendedHeaders.{AreSameOrApart}
use Rattle.keep_edit_spec.specs.Edits as law
use Rattle.keep_edit_spec.specs.Edits.{edited_document}
use Rattle.keep_edit_spec.specs.FilledTables.{AppendsNewElement, AppendsNewTable, IsFilledRun, IsFilledRunLonger}
use Rattle.keep_edit_spec.specs.FilledTables.{IsOpen}
use Rattle.keep_edit_spec.specs.FilledTables.{LetsElementCome, LetsTableCome, element_at, elements_among, is_element_of}
use Rattle.keep_edit_spec.specs.FilledTables.{key_in}
use Rattle.keep_edit_spec.specs.Lines.{newline_of}
use Rattle.keep_edit_spec.specs.Refusals.{refusal, tables_in}
use Rattle.keep_edit_spec.specs.Runs.{AreApart}
use Rattle.keep_edit_spec.specs.TextChanges.{IsBeside, TextChange, with_change}
use Rattle.keep_edit_spec.proofs.Shared.{all_with, filled_run_goes_on_element, filled_run_goes_on_key}
use Rattle.keep_edit_spec.proofs.Shared.{filled_run_goes_on_table, none_is_filled_run, same_path-refl, same_path-sound}
use Rattle.keep_edit_spec.proofs.Shared.{without_last-snoc}
use Rattle.keep_edit_plan.proofs.Shared.{change_in, editable}
use Rattle.keep_edit_plan.specs.Answers.{IsSpanOf}
use Rattle.keep_edit_plan.specs.Headers.{key_texts}
use Rattle.keep_edit_plan.specs.NewTables.{IsKeyLine}
use Rattle.keep_edit_plan.specs.TextEdits.{IsChangeIn, change_of}
use Rattle.keep_edit_plan.specs.declared.edit.Edit.{Edit}
use Rattle.keep_edit_plan.specs.declared.text_edit.TextEdit.{TextEdit}
use Rattle.keep_edit_runs.specs.FilledTables.{AddsElementHere, AddsKeyHere, AddsTableHere, FillsHere, HasOwn}
use Rattle.keep_edit_runs.specs.FilledTables.{AreLastElements, IsFilledRunTo, IsLastElement, IsMadeKnown}
use Rattle.keep_edit_runs.specs.FilledTables.{IsNextElement, TakesKeys, last_path}
use Rattle.keep_edit_runs.specs.LastElements.{IsLastKept, array_keys, array_number, last_at}
use Rattle.keep_edit_runs.specs.Lists.{AreMade, IsEdit}
use Rattle.keep_edit_plan.specs.Reading.{limit, IsTextOfTree, ProfiledText}
use Rattle.keep_edit_runs.specs.Runs.{MakeChanges, changed_text}
use Rattle.keep_edit_runs.specs.SeenHeaders.{HasAppended, HasBrought, HasHeader, HasMore, HasTableOf}
use Rattle.keep_edit_runs.specs.SeenHeaders.{IsHeaderAppended, IsHeaderBrought}
use Rattle.keep_edit_runs.specs.SeenPaths.{BeginsInKey, keys_number}
use Rattle.keep_edit_runs.specs.declared.filled_tables.FilledTables.{FilledTables}
use Rattle.keep_edit_runs.specs.declared.filled_tables.Opened.{Opened}
use Rattle.keep_edit_runs.specs.declared.last_elements.LastElement.{LastElement}
use Rattle.keep_edit_runs.specs.declared.last_elements.LastElements.{LastElements}
use Rattle.keep_edit_runs.specs.declared.seen_headers.SeenHeaders.{SeenHeaders}
use Rattle.keep_edit_runs.proofs.HeaderLaws.{header_passes, header_still, more_of_same, table_passed}
use Rattle.keep_edit_runs.proofs.RunSteps.{change_made, tree_made}
use Rattle.keep_edit_runs.proofs.SeenLaws.{none_above}

-- how many elements an edit more makes of them
one_more_among : (keys : List (List ℕ)) (e : law.Edit) (es : List law.Edit) (b : Bool) → is_element_of keys e ≡ b
    → elements_among keys (e ∷ es) ≡ cond b 1 0 + elements_among keys es
one_more_among keys e es b is =
    sum_by-cons (λ (f : law.Edit). cond {A = ℕ} (is_element_of keys f) 1 0) e es
    ∙ ap (λ (x : Bool). cond {A = ℕ} x 1 0 + elements_among keys es) is

-- ---- what is known of the edits before

known_still : (old new : SeenHeaders) → HasMore old new → (e : law.Edit) → IsMadeKnown old e → IsMadeKnown new e
known_still old new more (law.append_table keys) (first, h) = (first, header_still old new (map key keys) more h)
known_still old new more (law.append_element keys) ((first, has), h) =
    ((first, more.brought (map key keys) has), header_still old new (map key keys) more h)
known_still old new more (law.insert path value) (first, has) = (first, more.brought path has)
known_still old new more (law.set path value) h = absurd h
known_still old new more (law.rename path name) h = absurd h
known_still old new more (law.remove path) h = absurd h

-- the keys of a header are some
table_begins : (keys : List (List ℕ)) (ms : List Mention) → is_node (map key keys) ms ≡ false
    → BeginsInKey (map key keys)
table_begins [] ms new = absurd cc
table_begins (k ∷ keys) ms new = (k, refl)

element_begins : (profile : Profile) (before : Document) (keys : List (List ℕ))
    → refusal profile limit before (law.append_element keys) ≡ None → BeginsInKey (map key keys)
element_begins profile before [] allowed = absurd cc
element_begins profile before (k ∷ keys) allowed = (k, refl)

some_first : (path : List Part) → BeginsInKey path → 0 < length path
some_first path first = slice_get_within path 0 (key first.0) first.1

-- a list is the longest of its beginnings
beginning_whole : (path : List Part) → 0 < length path → take ((length path - 1) + 1) path ≡ path
beginning_whole path some =
    ap (λ (n : ℕ). take n path) (let one : (length path - 1) + 1 ≡ length path = omega (arith, some) in one)
    ∙ take_all (length path) path (omega arith)

whole_of : (seen : SeenHeaders) (keys : List Part) → 0 < length keys → HasHeader seen keys → HasAppended seen keys
whole_of seen keys some h =
    subst (HasAppended seen) (beginning_whole keys some) (h (length keys - 1) (omega (arith, some)))

-- no header before is of the table or below it
not_below : (seen : SeenHeaders) (keys more : List (List ℕ)) → 0 < length (map key keys)
    → ¬ HasAppended seen (map key keys) → HasHeader seen (map key more) → strip (map key keys) (map key more) ≡ None
not_below seen keys more some lacks h =
    none_above (λ l. ¬ HasAppended seen l) (map key keys) (map key more) lacks (λ n is many none.
    let one : (n - 1) + 1 ≡ n = omega (arith, is, some) in
    none (subst (λ (k : ℕ). HasAppended seen (take k (map key more))) one (h (n - 1) (omega (arith, is, some, many)))))

-- nor is a path before above it, of which this is known
not_above : (P : List Part → Type 0) (path : List Part) (keys : List (List ℕ)) → BeginsInKey path → P path
    → ((n : ℕ) → n < length (map key keys) → ¬ P (take (n + 1) (map key keys))) → strip path (map key keys) ≡ None
not_above P path keys first has lacks =
    let some : 0 < length path = some_first path first in
    none_above P path (map key keys) has (λ n is many.
    let one : (n - 1) + 1 ≡ n = omega (arith, is, some) in
    subst (λ (k : ℕ). ¬ P (take k (map key keys))) one (lacks (n - 1) (omega (arith, is, some, many))))

-- each edit before lets a table come
lets_come : (seen : SeenHeaders) (keys : List (List ℕ)) → BeginsInKey (map key keys)
    → ¬ HasAppended seen (map key keys)
    → ((n : ℕ) → n < length (map key keys) → ¬ HasBrought seen (take (n + 1) (map key keys)))
    → (e : law.Edit) → IsMadeKnown seen e → LetsTableCome keys e
lets_come seen keys begins lacks passes (law.append_table more) (first, h) =
    not_below seen keys more (some_first (map key keys) begins) lacks h
lets_come seen keys begins lacks passes (law.append_element more) ((first, has), h) = (
  not_above (HasBrought seen) (map key more) keys first has passes,
  not_below seen keys more (some_first (map key keys) begins) lacks h,
)
lets_come seen keys begins lacks passes (law.insert path value) h = header_passes seen keys path h passes
lets_come seen keys begins lacks passes (law.set path value) h = absurd h
lets_come seen keys begins lacks passes (law.rename path name) h = absurd h
lets_come seen keys begins lacks passes (law.remove path) h = absurd h

-- each lets an element of another array come, and is none of that
module _ (seen : SeenHeaders) (keys : List (List ℕ)) (begins : BeginsInKey (map key keys))
    (apart : (n : ℕ) → n < length (map key keys) → ¬ HasAppended seen (take (n + 1) (map key keys)))
    (passes : (n : ℕ) → n < length (map key keys) → ¬ HasBrought seen (take (n + 1) (map key keys))) where
  some : 0 < length (map key keys)
  some = some_first (map key keys) begins

  lacks_whole : ¬ HasAppended seen (map key keys)
  lacks_whole has =
      apart (length (map key keys) - 1) (omega (arith, some))
      (subst (HasAppended seen) (sym (beginning_whole (map key keys) some)) has)

  header_apart : (more : List (List ℕ)) → BeginsInKey (map key more) → HasHeader seen (map key more)
      → AreApart (map key more) (map key keys)
  header_apart more first h = (
    not_above (HasAppended seen) (map key more) keys first
        (whole_of seen (map key more) (some_first (map key more) first) h) apart,
    not_below seen keys more some lacks_whole h,
  )

  lets_element : (e : law.Edit) → IsMadeKnown seen e → LetsElementCome keys e
  lets_element (law.append_table more) (first, h) = header_apart more first h
  lets_element (law.append_element more) ((first, has), h) = inr (header_apart more first h)
  lets_element (law.insert path value) h = header_passes seen keys path h passes
  lets_element (law.set path value) h = absurd h
  lets_element (law.rename path name) h = absurd h
  lets_element (law.remove path) h = absurd h

  none_of_it : (e : law.Edit) → IsMadeKnown seen e → is_element_of keys e ≡ false
  none_of_it (law.append_element more) ((first, has), h) =
      by (same_path (map key more) (map key keys)) refl
    where
      by : (b : Bool) → same_path (map key more) (map key keys) ≡ b → b ≡ false
      by false e = refl
      by true e =
          absurd (lacks_whole (subst (HasAppended seen) (same_path-sound (map key more) (map key keys) e)
          (whole_of seen (map key more) (some_first (map key more) first) h)))
  none_of_it (law.append_table more) h = refl
  none_of_it (law.insert path value) h = refl
  none_of_it (law.set path value) h = refl
  none_of_it (law.rename path name) h = refl
  none_of_it (law.remove path) h = refl

  none_among : (es : List law.Edit) → All (IsMadeKnown seen) es → elements_among keys es ≡ 0
  none_among [] h = refl
  none_among (e ∷ es) h =
      one_more_among keys e es false (none_of_it e (All-head (IsMadeKnown seen) e es h))
      ∙ omega (arith, none_among es (All-tail (IsMadeKnown seen) e es h))

-- ---- the last elements of arrays

any_here : (e : law.Edit) (es : List law.Edit) → Any (λ x. x ≡ e) (e ∷ es)
any_here e es = (0, e, omega arith, refl, refl)

any_later : (P : law.Edit → Type 0) (e : law.Edit) (es : List law.Edit) → Any P es → Any P (e ∷ es)
any_later P e es (k, x, lt, is, p) = (suc k, x, omega (arith, lt), is, p)

-- what holds of all edits holds of one that came
of_one_that_came : (P : law.Edit → Type 0) (e : law.Edit) (es : List law.Edit) → Any (λ x. x ≡ e) es → All P es → P e
of_one_that_came P e es (k, x, lt, is, same) all = subst P (is ∙ same) (all k x lt)

swapped : (path other : List Part) → AreApart path other → AreApart other path
swapped path other (one, two) = (two, one)

module _ (before : Document) (seen next : SeenHeaders) (es : List law.Edit) (more : HasMore seen next) where
  -- after an edit that lets one more come, and is none of that array
  last_still : (e : law.Edit) (n : ℕ) (l : LastElement) → LetsElementCome (array_keys l) e
      → is_element_of (array_keys l) e ≡ false → IsLastElement before seen es n l
      → IsLastElement before next (e ∷ es) n l
  last_still e n l lets other was = record {
    numbered = was.numbered;
    begins = was.begins;
    header = header_still seen next (map key (array_keys l)) more was.header;
    brought = more.brought (map key (array_keys l)) was.brought;
    came = any_later (λ x. x ≡ law.append_element (array_keys l)) e es was.came;
    lets = All-cons (LetsElementCome (array_keys l)) e es lets was.lets;
    counts = omega (arith, one_more_among (array_keys l) e es false other, was.counts);
  }

  all_still : (at : ℕ → Option LastElement) (e : law.Edit)
      → ((n : ℕ) (l : LastElement) → IsLastElement before seen es n l → LetsElementCome (array_keys l) e
      × (is_element_of (array_keys l) e ≡ false))
      → AreLastElements before seen es at → AreLastElements before next (e ∷ es) at
  all_still at e lets h n = by (at n) (h n)
    where
      by : (o : Option LastElement) → IfSome o (IsLastElement before seen es n)
          → IfSome o (IsLastElement before next (e ∷ es) n)
      by None was = tt
      by (Some l) was = let (come, other) = lets n l was in last_still e n l come other was

  -- a new table
  after_table : (at : ℕ → Option LastElement) (keys : List (List ℕ)) → BeginsInKey (map key keys)
      → ¬ HasAppended seen (map key keys)
      → ((n : ℕ) → n < length (map key keys) → ¬ HasBrought seen (take (n + 1) (map key keys)))
      → AreLastElements before seen es at → AreLastElements before next (law.append_table keys ∷ es) at
  after_table at keys begins lacks passes =
      all_still at (law.append_table keys) (λ n l was. (
        swapped (map key (array_keys l)) (map key keys)
            (lets_come seen keys begins lacks passes (law.append_element (array_keys l))
            ((was.begins, was.brought), was.header)),
        refl,
      ))

  -- a key
  after_key : (at : ℕ → Option LastElement) (path : List Part) (value : Value) → IsHeaderBrought seen path next
      → AreLastElements before seen es at → AreLastElements before next (law.insert path value ∷ es) at
  after_key at path value brought =
      all_still at (law.insert path value) (λ n l was. (
        table_passed seen (array_keys l) path brought.here.0 brought.passes was.header,
        refl,
      ))

  -- an element of an array, which is the last of it then
  module _ (old new : LastElements) (l : LastElement) (kept : IsLastKept old l new)
      (others : (n : ℕ) (m : LastElement) → IsLastElement before seen es n m
      → AreSameOrApart (array_keys l) (array_keys m))
      (own : IsLastElement before next (law.append_element (array_keys l) ∷ es) (array_number l) l) where
    abbrev element : law.Edit
    element = law.append_element (array_keys l)

    other_array : (n : ℕ) (m : LastElement) → n ≢ array_number l → IsLastElement before seen es n m
        → is_element_of (array_keys m) element ≡ false
    other_array n m differs was = by (same_path (map key (array_keys l)) (map key (array_keys m))) refl
      where
        by : (b : Bool) → same_path (map key (array_keys l)) (map key (array_keys m)) ≡ b → b ≡ false
        by false e = refl
        by true e =
            absurd (differs (sym was.numbered
            ∙ ap keys_number (sym (same_path-sound (map key (array_keys l)) (map key (array_keys m)) e))))

    after_element : AreLastElements before seen es (last_at old)
        → AreLastElements before next (element ∷ es) (last_at new)
    after_element h n = by (n == array_number l) refl
      where
        by_old : (o : Option LastElement) → n ≢ array_number l → IfSome o (IsLastElement before seen es n)
            → IfSome o (IsLastElement before next (element ∷ es) n)
        by_old None differs was = tt
        by_old (Some m) differs was =
            last_still element n m (others n m was) (other_array n m differs was) was

        by : (b : Bool) → (n == array_number l) ≡ b
            → IfSome (last_at new n) (IsLastElement before next (element ∷ es) n)
        by true e =
            let same : array_number l ≡ n = sym (eqb-true n (array_number l) e) in
            subst (λ (k : ℕ). IfSome (last_at new k) (IsLastElement before next (element ∷ es) k)) same
            (subst (λ (o : Option LastElement). IfSome o (IsLastElement before next (element ∷ es) (array_number l)))
            (sym kept.here) own)
        by false e =
            let differs : n ≢ array_number l =
            λ same. (let both : false ≡ true = sym e ∙ eq-eqb n (array_number l) same in absurd cc) in
            subst (λ (o : Option LastElement). IfSome o (IsLastElement before next (element ∷ es) n))
            (sym (kept.others n differs)) (by_old (last_at old n) differs (h n))

-- ---- one edit more

module _ (s : Document) (edits : List Edit) (n : ℕ) (old now : ProfiledText) (before : Document)
    (read : IsTextOfTree now before) (seen : SeenHeaders) (own : List Part → Type 0) (last : Option Opened)
    (arrays : ℕ → Option LastElement) (changes : List TextChange)
    (h : IsFilledRunTo s edits n old now before seen own last arrays changes) (d x : Edit) (lt : n < length edits)
    (here : get_or edits n d ≡ x) (c : TextChange) (beside : All (λ b. IsBeside b c) changes)
    (utf8 : All (λ b. IsUtf8 b.new) (with_change changes c))
    (within : All (IsChangeIn now.text) (with_change changes c)) where
  abbrev t : Document
  t = h.made.tree

  abbrev newline : List ℕ
  newline = (newline_of before).text

  abbrev IsLonger : law.Edit → Type 0
  IsLonger e = IsFilledRunLonger now.profile limit before h.es changes t e c

  made : (e : law.Edit) → IsEdit x e → IsLonger e
      → AreMade s (take (suc n) edits) old (changed_text now (with_change changes c))
  made e given longer =
      change_made s edits n old now before changes read h.made d x lt here e given c h.run.text longer.run.text
      longer.run.follow longer.allowed longer.lawful utf8 within

  same_tree : (e : law.Edit) → (given : IsEdit x e) → (longer : IsLonger e)
      → edited_document t e ≡ (made e given longer).tree
  unfolding made
  same_tree e given longer =
      tree_made s edits n old now before changes read h.made d x lt here e given c h.run.text longer.run.text
      longer.run.follow longer.allowed longer.lawful utf8 within

  known_before : (next : SeenHeaders) → HasMore seen next → All (IsMadeKnown next) h.es
  known_before next more =
      All-weaker (IsMadeKnown seen) (IsMadeKnown next) (λ (e : law.Edit). known_still seen next more e) h.es h.known

  -- what is open takes keys, in the document that is made
  then_open : (e : law.Edit) (given : IsEdit x e) (longer : IsLonger e) (at : List Part) (names : List (List ℕ))
      → IsOpen now.profile limit newline (edited_document t e) at names
      → IsOpen now.profile limit newline (made e given longer).tree at names
  then_open e given longer at names opened =
      subst (λ (u : Document). IsOpen now.profile limit newline u at names) (same_tree e given longer) opened

  -- with one more, after which that is the last
  one_more : (next : SeenHeaders) (had : List Part → Type 0) (e : law.Edit) (given : IsEdit x e)
      (longer : IsLonger e) (o : Option Opened) (at : ℕ → Option LastElement) → HasMore seen next → IsMadeKnown next e
      → AreLastElements before next (e ∷ h.es) at
      → IfSome o (λ l. TakesKeys now.profile before (made e given longer).tree had l)
      → IsFilledRunTo s edits (suc n) old now before next had o at (with_change changes c)
  one_more next had e given longer o at more known elements takes = record {
    made = made e given longer;
    es = e ∷ h.es;
    run = subst (IsFilledRun now.profile limit before (e ∷ h.es) (with_change changes c)) (same_tree e given longer)
        longer.run;
    known = All-cons (IsMadeKnown next) e h.es known (known_before next more);
    elements = elements;
    last_takes = takes;
  }

  -- a table
  module _ (keys : Bor (List (String Global))) (next : SeenHeaders) (had : List Part → Type 0)
      (given : IsEdit x (law.append_table (key_texts keys.now)))
      (appends : AppendsNewTable now.profile limit before (key_texts keys.now) c)
      (lacks : ¬ HasAppended seen (map key (key_texts keys.now)))
      (more : IsHeaderAppended seen (map key (key_texts keys.now)) next) where
    abbrev table_keys : List (List ℕ)
    table_keys = key_texts keys.now

    abbrev table : law.Edit
    table = law.append_table table_keys

    table_first : BeginsInKey (map key table_keys)
    table_first = table_begins table_keys (mentions_in before) appends.new

    table_goes_on : IsLonger table
        × IsOpen now.profile limit newline (edited_document t table) (map key table_keys) []
    table_goes_on =
        filled_run_goes_on_table now.profile limit before h.es changes t table_keys c h.run appends
        (All-weaker (IsMadeKnown seen) (LetsTableCome table_keys)
        (λ (e : law.Edit). lets_come seen table_keys table_first lacks more.passes e) h.es h.known) beside

    pub one_table_more : IsFilledRunTo s edits (suc n) old now before next had
        (Some (record { keys = keys; element = None })) arrays (with_change changes c)
    one_table_more =
        one_more next had table given table_goes_on.0 (Some (record { keys = keys; element = None })) arrays more.more
        (table_first, more.here)
        (after_table before seen next h.es more.more arrays table_keys table_first lacks more.passes h.elements)
        (record {
          names = [];
          known = All-nil (λ name. had (key_in (map key table_keys) name));
          takes = then_open table given table_goes_on.0 (map key table_keys) [] table_goes_on.1;
        })

  -- an element
  module _ (keys : Bor (List (String Global))) (first number : ℕ) (next : SeenHeaders) (had : List Part → Type 0)
      (at : ℕ → Option LastElement) (given : IsEdit x (law.append_element (key_texts keys.now)))
      (appends : AppendsNewElement now.profile limit before (key_texts keys.now) first c)
      (more : HasMore seen next) (header : HasHeader next (map key (key_texts keys.now)))
      (brought : HasBrought next (map key (key_texts keys.now)))
      (lets : All (LetsElementCome (key_texts keys.now)) h.es)
      (counts : elements_among (key_texts keys.now) h.es + first ≡ number) where
    abbrev array_of_it : List (List ℕ)
    array_of_it = key_texts keys.now

    abbrev element_edit : law.Edit
    element_edit = law.append_element array_of_it

    abbrev opened : Opened
    opened = record { keys = keys; element = Some number }

    abbrev its : LastElement
    its = record { keys = keys; number = number }

    element_begins_in : BeginsInKey (map key array_of_it)
    element_begins_in = element_begins now.profile before array_of_it appends.appends.allowed

    element_goes_on : IsLonger element_edit
        × IsOpen now.profile limit newline (edited_document t element_edit)
        (element_at array_of_it (elements_among array_of_it h.es + first)) []
    element_goes_on =
        filled_run_goes_on_element now.profile limit before h.es changes t array_of_it first c h.run appends lets beside

    pub is_last_of_its : IsLastElement before next (element_edit ∷ h.es) (array_number its) its
    is_last_of_its = record {
      numbered = refl;
      begins = element_begins_in;
      header = header;
      brought = brought;
      came = any_here element_edit h.es;
      lets = All-cons (LetsElementCome array_of_it) element_edit h.es (inl refl) lets;
      counts =
          omega (
            arith,
            one_more_among array_of_it element_edit h.es true (same_path-refl (map key array_of_it)),
            counts,
            appends.counted,
          );
    }

    pub one_element_more : AreLastElements before next (element_edit ∷ h.es) at
        → IsFilledRunTo s edits (suc n) old now before next had (Some opened) at (with_change changes c)
    one_element_more elements =
        one_more next had element_edit given element_goes_on.0 (Some opened) at more
        ((element_begins_in, brought), header) elements (record {
          names = [];
          known = All-nil (λ name. had (key_in (last_path opened) name));
          takes = then_open element_edit given element_goes_on.0 (last_path opened) []
              (subst (λ (m : ℕ).
              IsOpen now.profile limit newline (edited_document t element_edit) (element_at array_of_it m) []) counts
              element_goes_on.1);
        })

  -- a key
  module _ (o : Opened) (next : SeenHeaders) (had : List Part → Type 0) (path : List Part) (value : Value)
      (given : IsEdit x (law.insert path value)) (line : IsKeyLine now.profile before path value c)
      (of_last : last ≡ Some o) (holder : without_last path ≡ last_path o)
      (lacks : ¬ own path) (here_now : had path) (still : (other : List Part) → own other → had other)
      (more : IsHeaderBrought seen path next) where
    abbrev at : List Part
    at = last_path o

    open_last : TakesKeys now.profile before t own o
    open_last =
        subst (λ (l : Option Opened). IfSome l (λ m. TakesKeys now.profile before t own m)) of_last h.last_takes

    path_is : path ≡ key_in at line.name
    path_is =
        let same : line.holder ≡ at =
        sym (without_last-snoc line.holder (key line.name)) ∙ ap without_last (sym line.whole) ∙ holder in
        line.whole ∙ ap (λ (l : List Part). l ++ key line.name ∷ []) same

    abbrev insert : law.Edit
    insert = law.insert (key_in at line.name) value

    insert_given : IsEdit x insert
    insert_given = subst (λ (p : List Part). IsEdit x (law.insert p value)) path_is given

    -- the key is none of those that it has
    new : All (λ name. name ≢ line.name) open_last.names
    new =
        All-weaker (λ name. own (key_in at name)) (λ name. name ≢ line.name)
        (λ (name : List ℕ). λ has same. lacks (subst own (ap (key_in at) same ∙ sym path_is) has))
        open_last.names open_last.known

    key_goes_on : IsLonger insert
        × IsOpen now.profile limit newline (edited_document t insert) at (line.name ∷ open_last.names)
    key_goes_on =
        filled_run_goes_on_key now.profile limit before h.es changes t at open_last.names line.name value c h.run
        open_last.takes line.utf8 line.fitting new line.is beside

    key_here : HasTableOf next (key_in at line.name)
    key_here = subst (HasTableOf next) path_is more.here

    brought_it : IsHeaderBrought seen (key_in at line.name) next
    brought_it = subst (λ (p : List Part). IsHeaderBrought seen p next) path_is more

    pub one_key_more : IsFilledRunTo s edits (suc n) old now before next had last arrays (with_change changes c)
    one_key_more =
        subst (λ (l : Option Opened).
        IsFilledRunTo s edits (suc n) old now before next had l arrays (with_change changes c)) (sym of_last)
        (one_more next had insert insert_given key_goes_on.0 (Some o) arrays more.more key_here
        (after_key before seen next h.es more.more arrays (key_in at line.name) value brought_it h.elements) (record {
          names = line.name ∷ open_last.names;
          known = All-cons (λ name. had (key_in at name)) line.name open_last.names (subst had path_is here_now)
              (All-weaker (λ name. own (key_in at name)) (λ name. had (key_in at name))
              (λ (name : List ℕ). still (key_in at name)) open_last.names open_last.known);
          takes = then_open insert insert_given key_goes_on.0 at (line.name ∷ open_last.names) key_goes_on.1;
        }))

-- ---- as the code goes

-- So far these changes are made, and the edits up to number `end` are made by them.
pub record AreFilled (edits : List Edit) (first end : ℕ) (now : ProfiledText) (seen : SeenHeaders)
    (own : List Part → Type 0) (last : Option Opened) (arrays : ℕ → Option LastElement) (changes : List TextChange)
    : Type 0 where
  pub made : (s : Document) (old : ProfiledText) → (h : AreMade s (take first edits) old now)
      → IsFilledRunTo s edits end old now h.tree seen own last arrays changes
  pub within : All (IsChangeIn now.text) changes
  pub utf8 : All (λ c. IsUtf8 c.new) changes

abbrev pub AreFilledBy : List Edit → ℕ → ℕ → ProfiledText → FilledTables → Type 0
AreFilledBy edits first end now tables =
    AreFilled edits first end now tables.seen (HasOwn tables) tables.last (last_at tables.arrays) tables.changes

no_edits : (edits : List Edit) (first : ℕ) (now : ProfiledText) (seen : SeenHeaders) (own : List Part → Type 0)
    (arrays : ℕ → Option LastElement) → ((n : ℕ) → arrays n ≡ None)
    → AreFilled edits first first now seen own None arrays []
no_edits edits first now seen own arrays no_arrays = record {
  made = λ s old h. record {
    made = h;
    es = [];
    run = none_is_filled_run now.profile limit h.tree (editable now h.tree h.read);
    known = All-nil (IsMadeKnown seen);
    elements = λ n.
        subst (λ (o : Option LastElement). IfSome o (IsLastElement h.tree seen [] n)) (sym (no_arrays n)) tt;
    last_takes = tt;
  };
  within = All-nil (IsChangeIn now.text);
  utf8 = All-nil (λ c. IsUtf8 c.new);
}

pub no_tables : (edits : List Edit) (first : ℕ) (now : ProfiledText) (tables : FilledTables) → tables.changes ≡ []
    → tables.last ≡ None → ((n : ℕ) → last_at tables.arrays n ≡ None) → AreFilledBy edits first first now tables
no_tables edits first now tables none before_first no_arrays =
    subst (AreFilled edits first first now tables.seen (HasOwn tables) tables.last (last_at tables.arrays)) (sym none)
    (subst (λ (o : Option Opened).
    AreFilled edits first first now tables.seen (HasOwn tables) o (last_at tables.arrays) []) (sym before_first)
    (no_edits edits first now tables.seen (HasOwn tables) (last_at tables.arrays) no_arrays))

module _ (edits : List Edit) (first end : ℕ) (now : ProfiledText) (old new : FilledTables) (d x : Edit)
    (so_far : AreFilledBy edits first end now old) (lt : end < length edits) (here : get_or edits end d ≡ x) where
  -- with one change more
  utf8_with : (t : TextEdit) → All (λ c. IsUtf8 c.new) (with_change old.changes (change_of t))
  utf8_with t = all_with (λ b. IsUtf8 b.new) old.changes (change_of t) so_far.utf8 (IsUtf8-string_bytes t.new)

  within_with : (t : TextEdit) → IsSpanOf now.text t.place
      → All (IsChangeIn now.text) (with_change old.changes (change_of t))
  within_with t within =
      all_with (IsChangeIn now.text) old.changes (change_of t) so_far.within (change_in now.text t within)

  abbrev IsAfter : Option Opened → LastElements → List TextChange → Type 0
  IsAfter last arrays changes = AreFilled edits first (suc end) now new.seen (HasOwn new) last (last_at arrays) changes

  after : (last : Option Opened) (arrays : LastElements) (c : TextChange) → new.last ≡ last → new.arrays ≡ arrays
      → new.changes ≡ with_change old.changes c → IsAfter last arrays (with_change old.changes c)
      → AreFilledBy edits first (suc end) now new
  after last arrays c last_is arrays_are changes_are h =
      subst (IsAfter new.last new.arrays) (sym changes_are)
      (subst (λ (o : Option Opened). IsAfter o new.arrays (with_change old.changes c)) (sym last_is)
      (subst (λ (a : LastElements). IsAfter last a (with_change old.changes c)) (sym arrays_are) h))

  with_table : AddsTableHere now old x new → AreFilledBy edits first (suc end) now new
  with_table a =
      let c : TextChange = change_of a.made in
      let utf8 = utf8_with a.made in
      let within = within_with a.made a.appends.within in
      after (Some (record { keys = a.keys; element = None })) old.arrays c a.added.last a.added.arrays a.added.changes
      (record {
        made = λ s before h. one_table_more s edits end before now h.tree h.read old.seen (HasOwn old) old.last
            (last_at old.arrays) old.changes (so_far.made s before h) d x lt here c a.added.beside utf8 within a.keys
            new.seen (HasOwn new) a.is (a.appends.appends h.tree h.read) a.added.lacks a.added.header;
        within = within;
        utf8 = utf8;
      })

  -- of an array that is apart from all before, or of one of which an element came
  with_element : AddsElementHere now old x new → AreFilledBy edits first (suc end) now new
  with_element a =
      let c : TextChange = change_of a.made in
      let utf8 = utf8_with a.made in
      let within = within_with a.made a.appends.within in
      after (Some (record { keys = a.keys; element = Some a.added.number })) new.arrays c a.added.last refl
      a.added.changes (record {
        made = λ s before h.
            element_by a s before h (so_far.made s before h) utf8 within a.added.next;
        within = within;
        utf8 = utf8;
      })
    where
      element_by : (a : AddsElementHere now old x new) (s : Document) (before : ProfiledText)
          (h : AreMade s (take first edits) before now)
          (f : IsFilledRunTo s edits end before now h.tree old.seen (HasOwn old) old.last (last_at old.arrays)
          old.changes)
          → All (λ b. IsUtf8 b.new) (with_change old.changes (change_of a.made))
          → All (IsChangeIn now.text) (with_change old.changes (change_of a.made))
          → IsNextElement old (key_texts a.keys.now) a.first new.seen a.added.number
          → IsFilledRunTo s edits (suc end) before now h.tree new.seen (HasOwn new)
          (Some (record { keys = a.keys; element = Some a.added.number })) (last_at new.arrays)
          (with_change old.changes (change_of a.made))
      element_by a s before h f utf8 within (inr (array, number)) =
          let keys = key_texts a.keys.now in
          let appends = a.appends.appends h.tree h.read in
          let begins = element_begins now.profile h.tree keys appends.appends.allowed in
          let lets : All (LetsElementCome keys) f.es =
          All-weaker (IsMadeKnown old.seen) (LetsElementCome keys)
          (λ (e : law.Edit). lets_element old.seen keys begins array.apart array.passes e) f.es f.known in
          let counts : elements_among keys f.es + a.first ≡ a.added.number =
          omega (arith, none_among old.seen keys begins array.apart array.passes f.es f.known, number) in
          let its : IsLastElement h.tree new.seen (law.append_element keys ∷ f.es) (keys_number (map key keys))
          (record { keys = a.keys; number = a.added.number }) =
          is_last_of_its s edits end before now h.tree h.read old.seen (HasOwn old) old.last (last_at old.arrays)
          old.changes f d x lt here (change_of a.made) a.added.beside utf8 within a.keys a.first a.added.number new.seen
          (HasOwn new) (last_at new.arrays) a.is appends array.more array.here array.brought lets counts in
          one_element_more s edits end before now h.tree h.read old.seen (HasOwn old) old.last (last_at old.arrays)
          old.changes f d x lt here (change_of a.made) a.added.beside utf8 within a.keys a.first a.added.number new.seen
          (HasOwn new) (last_at new.arrays) a.is appends array.more array.here array.brought lets counts
          (after_element h.tree old.seen new.seen f.es array.more old.arrays new.arrays
          (record { keys = a.keys; number = a.added.number }) a.added.kept
          (λ n m was. inr (swapped (map key (array_keys m)) (map key keys)
          (header_apart old.seen keys begins array.apart array.passes (array_keys m) was.begins was.header))) its
          f.elements)
      element_by a s before h f utf8 within (inl l) =
          let keys = key_texts a.keys.now in
          let appends = a.appends.appends h.tree h.read in
          let more = more_of_same old.seen new.seen l.seen_is in
          let was : IsLastElement h.tree old.seen f.es (keys_number (map key keys)) l.last =
          subst (λ (o : Option LastElement). IfSome o (IsLastElement h.tree old.seen f.es (keys_number (map key keys))))
          l.is (f.elements (keys_number (map key keys))) in
          let header : HasHeader new.seen (map key keys) =
          subst (λ (ks : List (List ℕ)). HasHeader new.seen (map key ks)) l.same
          (header_still old.seen new.seen (map key (array_keys l.last)) more was.header) in
          let brought : HasBrought new.seen (map key keys) =
          subst (λ (ks : List (List ℕ)). HasBrought new.seen (map key ks)) l.same
          (more.brought (map key (array_keys l.last)) was.brought) in
          let lets : All (LetsElementCome keys) f.es =
          subst (λ (ks : List (List ℕ)). All (LetsElementCome ks) f.es) l.same was.lets in
          let was_counts : elements_among keys f.es + elements_of (map key keys) (tables_in (mentions_in h.tree))
          ≡ suc l.last.number =
          subst (λ (ks : List (List ℕ)). elements_among ks f.es
          + elements_of (map key ks) (tables_in (mentions_in h.tree)) ≡ suc l.last.number) l.same was.counts in
          let came : Any (λ e. e ≡ law.append_element keys) f.es =
          subst (λ (ks : List (List ℕ)). Any (λ e. e ≡ law.append_element ks) f.es) l.same was.came in
          let counts : elements_among keys f.es + a.first ≡ a.added.number =
          omega (arith, was_counts, appends.counted, l.next) in
          let its : IsLastElement h.tree new.seen (law.append_element keys ∷ f.es) (keys_number (map key keys))
          (record { keys = a.keys; number = a.added.number }) =
          is_last_of_its s edits end before now h.tree h.read old.seen (HasOwn old) old.last (last_at old.arrays)
          old.changes f d x lt here (change_of a.made) a.added.beside utf8 within a.keys a.first a.added.number new.seen
          (HasOwn new) (last_at new.arrays) a.is appends more header brought lets counts in
          one_element_more s edits end before now h.tree h.read old.seen (HasOwn old) old.last (last_at old.arrays)
          old.changes f d x lt here (change_of a.made) a.added.beside utf8 within a.keys a.first a.added.number new.seen
          (HasOwn new) (last_at new.arrays) a.is appends more header brought lets counts
          (after_element h.tree old.seen new.seen f.es more old.arrays new.arrays
          (record { keys = a.keys; number = a.added.number }) a.added.kept
          (λ n m its_was.
          of_one_that_came (LetsElementCome (array_keys m)) (law.append_element keys) f.es came its_was.lets) its
          f.elements)

  with_key : AddsKeyHere now old x new → AreFilledBy edits first (suc end) now new
  with_key a =
      let c : TextChange = change_of a.made in
      let utf8 = utf8_with a.made in
      let within = within_with a.made a.within in
      after old.last old.arrays c a.added.last_is a.added.arrays a.added.changes (record {
        made = λ s before h. one_key_more s edits end before now h.tree h.read old.seen (HasOwn old) old.last
            (last_at old.arrays) old.changes (so_far.made s before h) d x lt here c a.added.beside utf8 within
            a.added.last new.seen (HasOwn new) a.path a.value a.is (a.line h.tree h.read) a.added.of_last
            a.added.holder a.added.kept.own.lacks a.added.kept.own.here a.added.kept.own.more a.added.kept.brought;
        within = within;
        utf8 = utf8;
      })

  pub tables_more : FillsHere now old x new → AreFilledBy edits first (suc end) now new
  tables_more (inl table) = with_table table
  tables_more (inr (inl element)) = with_element element
  tables_more (inr (inr a_key)) = with_key a_key

-- So all edits that the changes are of are made by them.
pub filled_made : (edits : List Edit) (first : ℕ) (now : ProfiledText) (tables : FilledTables)
    → {end to : ℕ} {its : List TextChange} → AreFilledBy edits first end now tables → its ≡ tables.changes → to ≡ end
    → MakeChanges edits first to now its
filled_made edits first now tables {end = end} {to = to} so_far same there s old h =
    subst (λ (cs : List TextChange). AreMade s (take to edits) old (changed_text now cs)) (sym same)
    (subst (λ (n : ℕ). AreMade s (take n edits) old (changed_text now tables.changes)) (sym there)
    (so_far.made s old h).made)

-- And the changes are in the text.
pub filled_within : (edits : List Edit) (first : ℕ) (now : ProfiledText) (tables : FilledTables)
    → {end : ℕ} {its : List TextChange} → AreFilledBy edits first end now tables → its ≡ tables.changes
    → All (IsChangeIn now.text) its
filled_within edits first now tables so_far same =
    subst (All (IsChangeIn now.text)) (sym same) so_far.within
