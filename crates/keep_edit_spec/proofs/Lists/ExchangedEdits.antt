-- Edits that are made at once, where an insert has another in its place, of another value, or of another new key in the
-- same table: what is asked of edits and of their changes.
--
-- Edits leave one another alone by their paths (`alone_more`, `left_more`). The changes are at one place and take
-- nothing, and the two lines are of one kind and one table, so others come after either (`after_alike`). So where each
-- edit has its place it has it still (`placed_more`), if the newlines that come are alike. What the insert leaves alone
-- is apart from its first new key, and so from the whole path, which begins with that (`whole_apart`, `passes_whole`);
-- so a set of the value goes on after it (`set_still`).
--
-- Theorems: `each_more`, `changes_more`, `placed_more`, `first_placed`, `alone_more`, `left_more`, `set_still`;
-- `lines_more`, `each_line_more`: the lines that are added; `whole_apart`, `passes_whole`.
use Rattle.std.proofs.Common.{◌≡◌, ℕ, ◌+◌, ◌<◌, Bool, true, false, List, [], ◌∷◌, ◌++◌, length, map, suc, All, refl}
use Rattle.std.proofs.Common.{sym, ap, subst, ◌∙◌, arith, None, ◌⊎◌, inl, inr}
use Rattle.std.specs.Prelude.{IsTrue, nat_lt, ◌&&◌, ◌||◌, ◌==◌}
use Rattle.std.specs.List.{list_any}
use Rattle.std.proofs.lemmas.List.{map-append}
use Rattle.std.proofs.lemmas.List.Elements.{All-cons, All-head, All-tail, All-weaker, filter_map-append}
use Rattle.keep_types.specs.declared.leaf.Profile.{Profile}
use Rattle.keep_syntax.specs.Tree.{Document, Value, text}
use Rattle.keep_path.specs.Path.{Part, beside, key, strip}
use Rattle.keep_edit_spec.specs.AddedLines.{first_new}
use Rattle.keep_edit_spec.specs.FirstNewline.{LeavesNewline}
use Rattle.keep_edit_spec.specs.DottedLines.{IsAtOrBelow}
use Rattle.keep_edit_spec.specs.InsertKinds.{Added, IsAfterAs, IsAfterLine, added_as, kind_of, table_of}
use Rattle.keep_edit_spec.specs.Edits.{Edit, append_element, append_table, edited_document, insert, remove, rename, set}
use Rattle.keep_edit_spec.specs.Laws.{IsEditable}
use Rattle.keep_edit_spec.specs.Look.{key_text, keys_in}
use Rattle.keep_edit_spec.specs.RunLists.{MadeEdit, lines_of, made, seen_of}
use Rattle.keep_edit_spec.specs.Runs.{AreApart, LeaveNewline, IsBeforeHeaders, IsInOrder, LeaveNewlineBefore}
use Rattle.keep_edit_spec.specs.Runs.{IsSeenStill, KeepsPlace, LeavesAlone, LetsCome, LetsTable, MakesChange}
use Rattle.keep_edit_spec.specs.Runs.{IsNoSecond}
use Rattle.keep_edit_spec.specs.Runs.{PassesBy, is_header, is_insert, is_new_after, seen, takes_up_to, with_line}
use Rattle.keep_edit_spec.specs.SetValues.{SetsValue}
use Rattle.keep_edit_spec.specs.TextChanges.{IsBeside, TextChange, change_at, moved}
use Rattle.keep_edit_spec.specs.declared.line_kind.LineKind.{LineKind}
use Rattle.keep_edit_spec.specs.declared.line_kind.LineKind.TheVariants.{LastInBody, OfDotted, WithHeader}
use Rattle.keep_edit_spec.proofs.Insert.KeysAtEnd.{path_goes_on}
use Rattle.keep_edit_spec.proofs.Lists.ApartPaths.{apart_renamed}
use Rattle.keep_edit_spec.proofs.Lists.ExchangedChanges.{IsAmong, all_before, all_from, all_join}
use Rattle.keep_edit_spec.proofs.Lists.NewHolder.{apart_under, clear_under}
use Rattle.keep_edit_spec.proofs.Lists.LineKinds.{keys_of_line}
use Rattle.keep_edit_spec.proofs.Lists.NewPaths.{InsertsKeys, first_clear}
use Rattle.keep_edit_spec.proofs.Lists.RunLaws.{same_seen}
use Rattle.keep_edit_spec.proofs.Lists.SetAfterRename.{set_after_rename}
use Rattle.keep_edit_spec.proofs.Lists.StillMakes.{still_makes}

-- ---- what leaves alone

-- An edit that leaves an insert alone leaves one of another value there alone.
pub alone_more : (path : List Part) (value more : Value) (f : Edit) → LeavesAlone f (insert path value)
    → LeavesAlone f (insert path more)
alone_more path value more (insert other new) h = h
alone_more path value more (remove other) h = h
alone_more path value more (set other new) h = h
alone_more path value more (rename other name) h = h
alone_more path value more (append_table keys) h = h
alone_more path value more (append_element keys) h = h

pub left_more : (path : List Part) (value more : Value) (f : Edit) → LeavesAlone (insert path value) f
    → LeavesAlone (insert path more) f
left_more path value more (insert other new) h = h
left_more path value more (remove other) h = h
left_more path value more (set other new) h = h
left_more path value more (rename other name) h = h
left_more path value more (append_table keys) h = h
left_more path value more (append_element keys) h = h

-- ---- a set of the value of a line that was added

-- A path apart from that of the first new key is apart from the whole path.
pub whole_apart : (profile : Profile) (limit : ℕ) (s : Document) (path : List Part) (value : Value)
    → InsertsKeys profile limit s path value → (q : List Part) → AreApart (first_new s path) q → AreApart q path
whole_apart profile limit s path value h q apart =
    let both : AreApart path q =
    subst (λ (p : List Part). AreApart p q) (sym (path_goes_on s path h.text h.more h.new))
    (apart_under (first_new s path) (map key h.more) q apart) in
    (both.1, both.0)

pub passes_whole : (profile : Profile) (limit : ℕ) (s : Document) (path : List Part) (value : Value)
    → InsertsKeys profile limit s path value → (keys : List (List ℕ)) → PassesBy keys (first_new s path)
    → PassesBy keys path
passes_whole profile limit s path value h keys passes =
    let first : List Part = first_new s path in
    let rest : List (List ℕ) = keys_in (map key h.more) in
    let whole : map key (keys_in path) ≡ map key (keys_in first) ++ map key rest =
    ap (λ (p : List Part). map key (keys_in p)) (path_goes_on s path h.text h.more h.new)
    ∙ ap (map key) (filter_map-append key_text first (map key h.more)) ∙ map-append key (keys_in first) rest in
    subst (λ (p : List Part). strip p (map key keys) ≡ None) (sym whole)
    (clear_under (map key (keys_in first)) (map key rest) (map key keys) passes)

-- The document now is after other edits, and the edit makes its change there, as before.
module _ (profile : Profile) (limit : ℕ) (s now : Document) (path : List Part) (value more : Value)
    (own : InsertsKeys profile limit s path value) (y : TextChange) (fine : IsEditable profile limit now)
    (sets : SetsValue profile limit now path more y) where
  abbrev IsSetStill : Edit → TextChange → Type 0
  IsSetStill f x =
      MakesChange profile limit now f x → IsSeenStill s now f → IsBeside x y
      → SetsValue profile limit (edited_document now f) path more (moved x y)

  by_laws : (f : Edit) (x : TextChange) → LeavesAlone (seen s f) (set path more) → IsSetStill f x
  by_laws f x alone makes same side =
      (still_makes profile limit now f x (set path more) y fine makes sets
      (subst (λ (e : Edit). LeavesAlone e (set path more)) (sym (same_seen s now f same)) alone) side
      (λ new. absurd (no_place new), tt)).0
    where
      no_place : IsTrue (is_new_after f (set path more)) → ⊥
      no_place new = let no : false ≡ true = new in absurd cc

  -- The set makes its change after an edit that the insert leaves alone.
  pub set_still : (f : Edit) (x z : TextChange) → MakesChange profile limit s f z
      → LeavesAlone (seen s (insert path value)) (seen s f) → IsSetStill f x
  set_still (insert other new) x z (kind, k) alone =
      let its : InsertsKeys profile limit s other new = keys_of_line kind profile limit s other new z k in
      by_laws (insert other new) x
      (whole_apart profile limit s path value own (first_new s other) (
        first_clear profile limit s path value other new own its alone,
        first_clear profile limit s other new path value its own (λ same. alone (sym same)),
      ))
  set_still (remove other) x z k alone =
      by_laws (remove other) x (whole_apart profile limit s path value own other alone)
  set_still (set other new) x z k alone = by_laws (set other new) x tt
  set_still (rename other name) x z k alone = λ makes same side.
      set_after_rename profile limit now other name x path more y fine makes sets
      (whole_apart profile limit s path value own other alone.0)
      (whole_apart profile limit s path value own (beside other name)
      (apart_renamed (first_new s path) other name alone.0 alone.1)) side
  set_still (append_table keys) x z k alone =
      by_laws (append_table keys) x (passes_whole profile limit s path value own keys alone)
  set_still (append_element keys) x z k alone =
      by_laws (append_element keys) x (passes_whole profile limit s path value own keys alone)

-- ---- what holds of all

pub each_more : (s : Document) (P : Edit → Type 0) (m by : MadeEdit) (later earlier : List MadeEdit)
    → (P (seen s m.edit) → P (seen s by.edit)) → All P (seen_of s (later ++ m ∷ earlier))
    → All P (seen_of s (later ++ by ∷ earlier))
each_more s P m by [] earlier on h =
    All-cons P (seen s by.edit) (seen_of s earlier) (on (All-head P (seen s m.edit) (seen_of s earlier) h))
    (All-tail P (seen s m.edit) (seen_of s earlier) h)
each_more s P m by (x ∷ later) earlier on h =
    All-cons P (seen s x.edit) (seen_of s (later ++ by ∷ earlier))
    (All-head P (seen s x.edit) (seen_of s (later ++ m ∷ earlier)) h)
    (each_more s P m by later earlier on (All-tail P (seen s x.edit) (seen_of s (later ++ m ∷ earlier)) h))

pub changes_more : (P : TextChange → Type 0) (c d : TextChange) (xs ys : List TextChange) → IsAmong c d xs ys
    → (P c → P d) → All P xs → All P ys
changes_more P c d xs ys k on h =
    let all : All P (k.before ++ c ∷ k.after) = subst (All P) k.is h in
    let (one, rest) = all_from P k.before k.after c all in
    subst (All P) (sym k.other)
    (all_join P k.before k.after d (all_before P k.before k.after c all) (on one) rest)

-- ---- the places

-- no edit is a header, or none of the changes takes the byte before a place: these are the same tests
header_none : (s : Document) (path other : List Part) (value more : Value) (c d : TextChange)
    (later earlier : List MadeEdit)
    → list_any is_header (seen_of s (later ++ made (insert path value) c ∷ earlier))
    ≡ list_any is_header (seen_of s (later ++ made (insert other more) d ∷ earlier))
header_none s path other value more c d [] earlier = refl
header_none s path other value more c d (x ∷ later) earlier =
    ap (λ (b : Bool). is_header (seen s x.edit) || b) (header_none s path other value more c d later earlier)

-- the same lines are added
pub lines_more : (s : Document) (path : List Part) (value more : Value) (c d : TextChange) → c.at ≡ d.at
    → (later earlier : List MadeEdit) → lines_of s (later ++ made (insert path value) c ∷ earlier)
    ≡ lines_of s (later ++ made (insert path more) d ∷ earlier)
lines_more s path value more c d at [] earlier =
    ap (λ (n : ℕ). record { first = first_new s path; at = n; kind = kind_of s path } ∷ lines_of s earlier) at
lines_more s path value more c d at (x ∷ later) earlier =
    ap (with_line s x.edit x.change) (lines_more s path value more c d at later earlier)

with_any : (s : Document) (P : Added → Type 0) (e : Edit) (z : TextChange) (were are : List Added)
    → (All P were → All P are) → All P (with_line s e z were) → All P (with_line s e z are)
with_any s P (insert q new) z were are rest k =
    All-cons P (added_as s q z) are (All-head P (added_as s q z) were k) (rest (All-tail P (added_as s q z) were k))
with_any s P (remove q) z were are rest k = rest k
with_any s P (set q new) z were are rest k = rest k
with_any s P (rename q name) z were are rest k = rest k
with_any s P (append_table keys) z were are rest k = rest k
with_any s P (append_element keys) z were are rest k = rest k

-- what holds of each line that is added, where it holds of one as of the other
pub each_line_more : (s : Document) (path other : List Part) (value more : Value) (c d : TextChange)
    (P : Added → Type 0) → (P (added_as s path c) → P (added_as s other d)) → (later earlier : List MadeEdit)
    → All P (lines_of s (later ++ made (insert path value) c ∷ earlier))
    → All P (lines_of s (later ++ made (insert other more) d ∷ earlier))
each_line_more s path other value more c d P on [] earlier h =
    All-cons P (added_as s other d) (lines_of s earlier) (on (All-head P (added_as s path c) (lines_of s earlier) h))
    (All-tail P (added_as s path c) (lines_of s earlier) h)
each_line_more s path other value more c d P on (x ∷ later) earlier h =
    with_any s P x.edit x.change (lines_of s (later ++ made (insert path value) c ∷ earlier))
    (lines_of s (later ++ made (insert other more) d ∷ earlier))
    (each_line_more s path other value more c d P on later earlier) h

-- A line of the place, the kind and the table of another comes after the same lines, and these come after it.
after_alike : (kind : LineKind) (l m line : Added) → l.at ≡ m.at → l.kind ≡ m.kind → table_of l ≡ table_of m
    → IsAfterAs kind l line → IsAfterAs kind m line
after_alike LastInBody l m line at kind table h = λ there is. h (at ∙ there) (kind ∙ is)
after_alike OfDotted l m line at kind table h = λ there.
    (let its = h (at ∙ there) in (
      sym kind ∙ its.0,
      subst (λ (q : List Part). IsAtOrBelow q (table_of line)) table its.1,
    ))
after_alike WithHeader l m line at kind table h = λ is.
    (let its = h (kind ∙ is) in (λ same. its.0 (at ∙ same), λ same. its.1 (table ∙ same)))

line_alike : (kind : LineKind) (l line m : Added) → line.at ≡ m.at → table_of line ≡ table_of m
    → IsAfterAs kind l line → IsAfterAs kind l m
line_alike LastInBody l line m at table h = λ there. h (there ∙ sym at)
line_alike OfDotted l line m at table h = λ there.
    (let its = h (there ∙ sym at) in (its.0, subst (λ (q : List Part). IsAtOrBelow (table_of l) q) table its.1))
line_alike WithHeader l line m at table h = λ is.
    (let its = h is in (λ same. its.0 (same ∙ sym at), λ same. its.1 (same ∙ sym table)))

second_alike : (keys : List (List ℕ)) (l m : Added) → l.kind ≡ m.kind → table_of l ≡ table_of m
    → IsNoSecond keys l → IsNoSecond keys m
second_alike keys l m kind table h = λ is same. h (kind ∙ is) (same ∙ ap keys_in (sym table))

passes_alike : (l m : Added) → l.kind ≡ m.kind → table_of l ≡ table_of m → (e : Edit) → LetsTable l e → LetsTable m e
passes_alike l m kind table (append_table keys) h = λ is. subst (PassesBy keys) table (h (kind ∙ is))
passes_alike l m kind table (append_element keys) h = λ is. subst (PassesBy keys) table (h (kind ∙ is))
passes_alike l m kind table (insert q new) h = h
passes_alike l m kind table (remove q) h = h
passes_alike l m kind table (set q new) h = h
passes_alike l m kind table (rename q name) h = h

-- So it is in order where the other is.
pub first_placed : (edits : List Edit) (changes : List TextChange) (lines : List Added) (l m : Added) → l.at ≡ m.at
    → l.kind ≡ m.kind → table_of l ≡ table_of m → IsInOrder edits changes lines l → IsInOrder edits changes lines m
first_placed edits changes lines l m at kind table h = record {
  after =
      All-weaker (λ x. IsAfterLine x l) (λ x. IsAfterLine x m)
      (λ x its. line_alike m.kind x l m at table (subst (λ (k : LineKind). IsAfterAs k x l) kind its)) lines h.after;
  stays = λ other.
      subst (λ (n : ℕ). list_any (takes_up_to n) changes ≡ false) at (h.stays (λ is. other (sym kind ∙ is)));
  passed = All-weaker (LetsTable l) (LetsTable m) (passes_alike l m kind table) edits h.passed;
}

any_more : (test : TextChange → Bool) (c d : TextChange) (before after : List TextChange) → test c ≡ test d
    → list_any test (before ++ c ∷ after) ≡ list_any test (before ++ d ∷ after)
any_more test c d [] after same = ap (λ (b : Bool). b || list_any test after) same
any_more test c d (x ∷ before) after same = ap (λ (b : Bool). test x || b) (any_more test c d before after same)

-- two changes at one place, that take nothing
module _ (c d : TextChange) (at : c.at ≡ d.at) (none : c.size ≡ 0) (no_size : d.size ≡ 0) where
  pub beside_of : (x : TextChange) → IsBeside x c → IsBeside x d
  beside_of x (inl ends) = inl (omega (arith, ends, at))
  beside_of x (inr (less, ends)) = inr (omega (arith, less, at), omega (arith, ends, at, none, no_size))

  pub beside_more : (x : TextChange) → IsBeside c x → IsBeside d x
  beside_more x (inl ends) = inl (omega (arith, ends, at, none, no_size))
  beside_more x (inr (less, ends)) = inr (omega (arith, less, at), omega (arith, ends, at))

  takes_none : (to : ℕ) (x : TextChange) → x.size ≡ 0 → takes_up_to to x ≡ false
  takes_none to x zero_size = ap (λ (n : ℕ). nat_lt 0 n && (x.at + n == to)) zero_size

  module _ (s : Document) (xs ys : List TextChange) (k : IsAmong c d xs ys) where
    abbrev bytes : List ℕ
    bytes = text s

    takes_alike : (to : ℕ) → list_any (takes_up_to to) xs ≡ list_any (takes_up_to to) ys
    takes_alike to =
        ap (list_any (takes_up_to to)) k.is
        ∙ any_more (takes_up_to to) c d k.before k.after (takes_none to c none ∙ sym (takes_none to d no_size))
        ∙ sym (ap (list_any (takes_up_to to)) k.other)

    lets_alike : (to : ℕ) (x : TextChange) → LetsCome bytes xs to x → LetsCome bytes ys to x
    lets_alike to x (inl clear) = inl clear
    lets_alike to x (inr h) =
        let line : TextChange = change_at h.said.from (suc (length h.said.line)) [] in
        inr (record {
          takes = h.takes;
          said = h.said;
          stays = changes_more (λ y. IsBeside y line) c d xs ys k (beside_more line) h.stays;
          alone = changes_more (λ y. y.at ≡ x.at → 0 < y.size) c d xs ys k
              (λ all same. absurd (let some : 0 < c.size = all (at ∙ same) in omega (arith, some, none))) h.alone;
        })

    lets_more : (to : ℕ) → All (LetsCome bytes xs to) xs → All (LetsCome bytes ys to) ys
    lets_more to h =
        changes_more (LetsCome bytes ys to) c d xs ys k (λ one. inl (takes_none to d no_size))
        (All-weaker (LetsCome bytes xs to) (LetsCome bytes ys to) (lets_alike to) xs h)

    leave_more : LeavesNewline s d → LeaveNewline s xs → LeaveNewline s ys
    leave_more new = changes_more (LeavesNewline s) c d xs ys k (λ one. new)

    -- two lines of one kind and one table
    module _ (path other : List Part) (value more : Value) (kind : kind_of s path ≡ kind_of s other)
        (table : table_of (added_as s path c) ≡ table_of (added_as s other d)) (later earlier : List MadeEdit) where
      abbrev ms : List MadeEdit
      ms = later ++ made (insert path value) c ∷ earlier

      abbrev others : List MadeEdit
      others = later ++ made (insert other more) d ∷ earlier

      abbrev was : List Edit
      was = seen_of s ms

      abbrev edits : List Edit
      edits = seen_of s others

      headers_more : (to : ℕ) → IsBeforeHeaders bytes was to → IsBeforeHeaders bytes edits to
      headers_more to (inl clear) = inl (sym (header_none s path other value more c d later earlier) ∙ clear)
      headers_more to (inr before) = inr before

      -- it leaves the first newline, or all edits add lines, and this one too
      abbrev pub AreAlike : Edit → Type 0
      AreAlike f = LeavesNewline s d ⊎ (IsTrue (is_insert (seen s f)) × All (λ e. IsTrue (is_insert e)) was)

      all_more : (P : Edit → Type 0) → (P (seen s (insert path value)) → P (seen s (insert other more))) → All P was
          → All P edits
      all_more P on = each_more s P (made (insert path value) c) (made (insert other more) d) later earlier on

      each_line : (P : Added → Type 0) → (P (added_as s path c) → P (added_as s other d)) → All P (lines_of s ms)
          → All P (lines_of s others)
      each_line P on = each_line_more s path other value more c d P on later earlier

      seconds : (keys : List (List ℕ)) → All (IsNoSecond keys) (lines_of s ms)
          → All (IsNoSecond keys) (lines_of s others)
      seconds keys =
          each_line (IsNoSecond keys) (second_alike keys (added_as s path c) (added_as s other d) kind table)

      order_more : (line : Added) → IsInOrder was xs (lines_of s ms) line → IsInOrder edits ys (lines_of s others) line
      order_more line order = record {
        after = each_line (λ l. IsAfterLine l line)
            (after_alike line.kind (added_as s path c) (added_as s other d) line at kind table) order.after;
        stays = λ is. sym (takes_alike line.at) ∙ order.stays is;
        passed = all_more (LetsTable line) (λ one. one) order.passed;
      }

      placed_header : (x : TextChange) → LeavesNewline s d
          → All (λ e. IsTrue (is_header e)) was ⊎ LeaveNewlineBefore s xs x.at
          → All (λ e. IsTrue (is_header e)) edits ⊎ LeaveNewlineBefore s ys x.at
      placed_header x new (inl all) = inl (all_more (λ e. IsTrue (is_header e)) (λ one. one) all)
      placed_header x new (inr (plain, clear)) = inr (leave_more new plain, sym (takes_alike x.at) ∙ clear)

      no_insert : {A : Type 0} → IsTrue false → A
      no_insert it = absurd (let e : false ≡ true = it in cc)

      placed_line : (x : TextChange) → LeavesNewline s d ⊎ All (λ e. IsTrue (is_insert e)) was
          → All (λ e. IsTrue (is_insert e)) was
          ⊎ (LeaveNewline s xs × (All (LetsCome bytes xs x.at) xs × IsBeforeHeaders bytes was x.at))
          → All (λ e. IsTrue (is_insert e)) edits
          ⊎ (LeaveNewline s ys × (All (LetsCome bytes ys x.at) ys × IsBeforeHeaders bytes edits x.at))
      placed_line x alike (inl all) = inl (all_more (λ e. IsTrue (is_insert e)) (λ one. one) all)
      placed_line x (inl plain) (inr (all, (lets, before))) =
          inr (leave_more plain all, (lets_more x.at lets, headers_more x.at before))
      placed_line x (inr all) (inr h) = inl (all_more (λ e. IsTrue (is_insert e)) (λ one. one) all)

      pub placed_more : (f : Edit) (x : TextChange) → AreAlike f → KeepsPlace s was xs (lines_of s ms) f x
          → KeepsPlace s edits ys (lines_of s others) f x
      placed_more (insert q new) x alike (order, h) = (
        order_more (added_as s q x) order,
        placed_line x (elim alike [ inl plain ↦ inl plain | inr (line, all) ↦ inr all ]) h,
      )
      placed_more (append_table keys) x (inl plain) h =
          (seconds keys h.0, placed_header x plain h.1)
      placed_more (append_table keys) x (inr (own, all)) h = no_insert own
      placed_more (append_element keys) x (inl plain) h =
          (seconds keys h.0, placed_header x plain h.1)
      placed_more (append_element keys) x (inr (own, all)) h = no_insert own
      placed_more (remove q) x alike h = tt
      placed_more (set q new) x alike h = tt
      placed_more (rename q name) x alike h = tt
