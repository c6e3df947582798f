-- Nested values, of which some are read.
--
-- The nodes of nested values are made in a loop along the flat list. Its invariant is `AreUnderway`: some of the nested
-- values are read, the others are left, and the next has this number. It holds at the start (`begin_underway`) and
-- after one more value (`underway_more`), since the next value of the list is the first that is left (`has_next`). The
-- loop ends at a value that is in no other value, or at the end of the list; then none is left (`none_left`,
-- `underway_ends`). A fault in the next value is one of all (`underway_fault`).
--
-- Theorems: `begin_underway`, `underway_more`, `underway_ends`: the invariant, from the first value to the last.
use Rattle.std.proofs.Common.{◌≡◌, ℕ, ◌+◌, ◌≤◌, List, [], ◌∷◌, ◌++◌, length, refl, sym, ◌∙◌, ap, subst, arith}
use Rattle.std.proofs.Common.{length-append, Some}
use Rattle.std.specs.Prelude.{slice_get}
use Rattle.std.proofs.lemmas.List.{append_assoc, append-nil}
use Rattle.std.proofs.lemmas.List.Elements.{filter_map-append}
use Rattle.std.proofs.lemmas.Option.{slice_get_within}
use Rattle.keep_syntax.specs.declared.fault.Why.{Why}
use Rattle.keep_types.specs.declared.syntax.Owner.{Owner}
use Rattle.keep_types.specs.declared.syntax.Owner.TheVariants as owner
use Rattle.keep_types.specs.declared.syntax.ValueInfo.{ValueInfo}
use Rattle.keep_syntax_store.specs.Flat.{Flat}
use Rattle.keep_rules.specs.declared.definitions.DefineFault.{DefineFault}
use Rattle.keep_meaning.specs.Marks as marks
use Rattle.keep_meaning.specs.Marks.{Mention, mark_of}
use Rattle.keep_rules.specs.NestedValues.{NestingState, NestedValue, nested_item, nested_keyed, AllSuit}
use Rattle.keep_rules.specs.NestedValues.{nested_mentions, all_nested_mentions, nesting_after, next_nesting}
use Rattle.keep_index_store.specs.Tree.{TrieInfos}
use Rattle.keep_rules.specs.Tables.{IsShaped}
use Rattle.keep_rules.specs.Represents.{FaultIn}
use Rattle.keep_rules.specs.Reads.{AreValueNodes}
use Rattle.keep_rules.specs.DefineFaults.{FaultMeets}
use Rattle.keep_rules.specs.NestedReads.{nested_keys, all_nested_keys, HasKeys, NestedRead}
use Rattle.keep_rules.specs.FlatValues.{MatchesNested, IsNested}
use Rattle.keep_rules.specs.Plans.{nodes_so_far, EndsAt, MatchNested, IsNext, AreNext, NestedValueRead}
use Rattle.keep_rules.specs.Plans.{NestedValueFaults, NestedValuesRead, NestedValuesFault}
use Rattle.keep_rules.proofs.NestedValueLemmas.{all_nested_mentions-append, nesting_after-append}
use Rattle.keep_rules.proofs.PassLemmas.{keeps_same}
use Rattle.keep_rules.proofs.StopLemmas.{fault_within}
use Rattle.keep_rules.proofs.BuildLemmas.{meets_weaker}
use Rattle.keep_rules.proofs.NestedReadLemmas.{nested_read_none, nested_read_then, nested_marks}

-- the first of the nested values are read, and the next has this number
pub record Underway (bytes : List ℕ) (f : Flat) (base from first : ℕ) (old : TrieInfos) (ids : List ℕ) (now : TrieInfos)
    (ids' : List ℕ) (number : ℕ) (s : NestingState) (ts : List NestedValue) : Type 0 where
  pub done : List NestedValue
  pub left : List NestedValue
  pub whole : ts ≡ done ++ left
  pub here : number ≡ from + length done
  pub was_read : NestedRead (nodes_so_far old ids) (nodes_so_far now ids') from first s done
  pub keys : length (marks.marks (all_nested_mentions s done)) ≡ all_nested_keys done
  pub suit : AllSuit (nesting_after s done) left
  pub matches : MatchNested bytes f base number (first + all_nested_keys done) left

-- of all nested values that the values may be
abbrev pub AreUnderway : List ℕ → Flat → ℕ → ℕ → TrieInfos → List ℕ → TrieInfos → List ℕ → ℕ → Type 0
AreUnderway bytes f base from old ids now ids' number =
    (s : NestingState) (ts : List NestedValue) (first : ℕ) → AreNext bytes f old.trie ids base from first s ts
    → Underway bytes f base from first old ids now ids' number s ts

pub begin_underway : (bytes : List ℕ) (f : Flat) (base from : ℕ) (old : TrieInfos) (ids : List ℕ) → IsShaped old.trie
    → AreUnderway bytes f base from old ids old ids from
begin_underway bytes f base from old ids shaped s ts first next = record {
  done = [];
  left = ts;
  whole = refl;
  here = omega arith;
  was_read = nested_read_none (nodes_so_far old ids) from first s shaped (keeps_same old.trie) next.nested;
  keys = refl;
  suit = next.suit;
  matches =
      subst (λ (n : ℕ). MatchNested bytes f base from n ts) (let e : first ≡ first + 0 = omega arith in e) next.matches;
}

-- ---- what comes next

-- a value inside a value is there
pub record IsThere (values : List ValueInfo) (number : ℕ) (info : ValueInfo) : Type 0 where
  pub listed : slice_get values number ≡ Some info
  pub nested : IsNested info.owner

-- the next nested value, with those after it
pub record HasNext (bytes : List ℕ) (f : Flat) (base first : ℕ) (now : TrieInfos) (ids' : List ℕ) (number : ℕ)
    (info : ValueInfo) (s : NestingState) (left : List NestedValue) : Type 0 where
  pub nested : NestedValue
  pub rest : List NestedValue
  pub split : left ≡ nested ∷ rest
  pub next : IsNext bytes f.keys now.trie ids' base info s nested
  pub first_is : info.first_key ≡ first
  pub suit : AllSuit (next_nesting s nested) rest
  pub matches : MatchNested bytes f base (number + 1) (first + nested_keys nested) rest

same_info : (a b : ValueInfo) → Some a ≡ Some b → a ≡ b
same_info a b e = cc

has_next : (bytes : List ℕ) (f : Flat) (base first : ℕ) (now : TrieInfos) (ids' : List ℕ) (number : ℕ)
    (info : ValueInfo) (s : NestingState) (left : List NestedValue)
    → IsThere f.values number info → AreValueNodes now.trie ids' s → AllSuit s left
    → MatchNested bytes f base number first left → HasNext bytes f base first now ids' number info s left
has_next bytes f base first now ids' number info s [] there are suit matches =
    absurd (matches info there.listed there.nested)
has_next bytes f base first now ids' number info s (t ∷ ts) there are suit matches =
    let same : matches.0 ≡ info = same_info matches.0 info (sym matches.1 ∙ there.listed) in
    record {
      nested = t;
      rest = ts;
      split = refl;
      next = record {
        nested = are;
        suits = suit.0;
        matches = subst (λ (i : ValueInfo). MatchesNested bytes f.keys base t i) same matches.2;
        keys = matches.3;
      };
      first_is = ap (λ (i : ValueInfo). i.first_key) (sym same) ∙ matches.4;
      suit = suit.1;
      matches = matches.5;
    }

underway_next : (bytes : List ℕ) (f : Flat) (base from first : ℕ) (old : TrieInfos) (ids : List ℕ) (now : TrieInfos)
    (ids' : List ℕ) (number : ℕ) (info : ValueInfo) (s : NestingState) (ts : List NestedValue)
    → IsThere f.values number info → (u : Underway bytes f base from first old ids now ids' number s ts)
    → HasNext bytes f base (first + all_nested_keys u.done) now ids' number info (nesting_after s u.done) u.left
underway_next bytes f base from first old ids now ids' number info s ts there u =
    has_next bytes f base (first + all_nested_keys u.done) now ids' number info (nesting_after s u.done) u.left there
    u.was_read.nested u.suit u.matches

pub some_next : (bytes : List ℕ) (f : Flat) (base from : ℕ) (old : TrieInfos) (ids : List ℕ) (now : TrieInfos)
    (ids' : List ℕ) (number : ℕ) (info : ValueInfo)
    → IsThere f.values number info → AreUnderway bytes f base from old ids now ids' number
    → (s : NestingState) × (ts : List NestedValue) × (first : ℕ) × AreNext bytes f old.trie ids base from first s ts
    → (s : NestingState) × (t : NestedValue) × IsNext bytes f.keys now.trie ids' base info s t
some_next bytes f base from old ids now ids' number info there under next =
    let u = under next.0 next.1 next.2 next.3 in
    let n = underway_next bytes f base from next.2 old ids now ids' number info next.0 next.1 there u in
    (nesting_after next.0 u.done, n.nested, n.next)

-- ---- one more

all_nested_keys-push : (ts : List NestedValue) (t : NestedValue)
    → all_nested_keys (ts ++ t ∷ []) ≡ all_nested_keys ts + nested_keys t
all_nested_keys-push [] t = omega arith
all_nested_keys-push (x ∷ ts) t = omega (arith, all_nested_keys-push ts t)

marks-push : (s : NestingState) (ts : List NestedValue) (t : NestedValue) → HasKeys t
    → length (marks.marks (all_nested_mentions s ts)) ≡ all_nested_keys ts
    → length (marks.marks (all_nested_mentions s (ts ++ t ∷ []))) ≡ all_nested_keys (ts ++ t ∷ [])
marks-push s ts t has e =
    let mentioned : all_nested_mentions s (ts ++ t ∷ []) ≡ all_nested_mentions s ts
    ++ nested_mentions (nesting_after s ts) t =
    all_nested_mentions-append s ts (t ∷ [])
    ∙ ap (λ w. all_nested_mentions s ts ++ w) (append-nil (nested_mentions (nesting_after s ts) t)) in
    ap (λ w. length (marks.marks w)) mentioned
    ∙ ap length (filter_map-append mark_of (all_nested_mentions s ts) (nested_mentions (nesting_after s ts) t))
    ∙ length-append (marks.marks (all_nested_mentions s ts)) (marks.marks (nested_mentions (nesting_after s ts) t))
    ∙ omega (arith, e, nested_marks (nesting_after s ts) t has, all_nested_keys-push ts t)

pub underway_more : (bytes : List ℕ) (f : Flat) (base from : ℕ) (old : TrieInfos) (ids : List ℕ) (now : TrieInfos)
    (ids' : List ℕ) (new : TrieInfos) (ids'' : List ℕ) (number : ℕ) (info : ValueInfo)
    → IsThere f.values number info → AreUnderway bytes f base from old ids now ids' number
    → NestedValueRead bytes f base info now ids' new ids'' number
    → AreUnderway bytes f base from old ids new ids'' (number + 1)
underway_more bytes f base from old ids now ids' new ids'' number info there under was_read s ts first next =
    let u = under s ts first next in
    let n = underway_next bytes f base from first old ids now ids' number info s ts there u in
    let one : NestedRead (nodes_so_far now ids') (nodes_so_far new ids'') number info.first_key (nesting_after s u.done)
    (n.nested ∷ []) = was_read (nesting_after s u.done) n.nested n.next in
    let two : NestedRead (nodes_so_far now ids') (nodes_so_far new ids'') (from + length u.done)
    (first + length (marks.marks (all_nested_mentions s u.done))) (nesting_after s u.done) (n.nested ∷ []) =
    subst (λ (k : ℕ).
    NestedRead (nodes_so_far now ids') (nodes_so_far new ids'') k
    (first + length (marks.marks (all_nested_mentions s u.done))) (nesting_after s u.done) (n.nested ∷ [])) u.here
    (subst (λ (k : ℕ).
    NestedRead (nodes_so_far now ids') (nodes_so_far new ids'') number k (nesting_after s u.done) (n.nested ∷ []))
    (n.first_is ∙ ap (λ k. first + k) (sym u.keys)) one) in
    record {
      done = u.done ++ n.nested ∷ [];
      left = n.rest;
      whole = u.whole ∙ ap (λ l. u.done ++ l) n.split ∙ sym (append_assoc u.done (n.nested ∷ []) n.rest);
      here = omega (arith, u.here, length-append u.done (n.nested ∷ []));
      was_read =
          nested_read_then (nodes_so_far old ids) (nodes_so_far now ids') (nodes_so_far new ids'') from first s u.done
          (n.nested ∷ []) u.was_read two;
      keys = marks-push s u.done n.nested n.next.keys u.keys;
      suit = subst (λ (x : NestingState). AllSuit x n.rest) (sym (nesting_after-append s u.done (n.nested ∷ [])))
          n.suit;
      matches =
          subst (λ (k : ℕ). MatchNested bytes f base (number + 1) k n.rest)
          (let e : (first + all_nested_keys u.done) + nested_keys n.nested ≡ first
          + all_nested_keys (u.done ++ n.nested ∷ []) = omega (arith, all_nested_keys-push u.done n.nested) in e)
          n.matches;
    }

-- ---- the end

not_nested : (bytes : List ℕ) (f : Flat) (base : ℕ) (t : NestedValue) (info : ValueInfo)
    → MatchesNested bytes f.keys base t info → IsNested info.owner
not_nested bytes f base (nested_item o fact) info matches = subst IsNested (sym matches.owned.1) tt
not_nested bytes f base (nested_keyed o ks fact) info matches = subst IsNested (sym matches.owned.1) tt

-- no value is left where the next one is in no value
none_left : (bytes : List ℕ) (f : Flat) (base first number : ℕ) (left : List NestedValue) → EndsAt f.values number
    → MatchNested bytes f base number first left → left ≡ []
none_left bytes f base first number [] ends matches = refl
none_left bytes f base first number (t ∷ ts) ends matches =
    absurd (ends matches.0 matches.1 (not_nested bytes f base t matches.0 matches.2))

pub underway_ends : (bytes : List ℕ) (f : Flat) (base from : ℕ) (old : TrieInfos) (ids : List ℕ) (now : TrieInfos)
    (ids' : List ℕ) (number : ℕ)
    → EndsAt f.values number → AreUnderway bytes f base from old ids now ids' number
    → NestedValuesRead bytes f base from old ids now ids'
underway_ends bytes f base from old ids now ids' number ends under s ts first next =
    let u = under s ts first next in
    let all : ts ≡ u.done =
    u.whole ∙ ap (λ l. u.done ++ l)
    (none_left bytes f base (first + all_nested_keys u.done) number u.left ends u.matches) ∙ append-nil u.done in
    subst (λ (l : List NestedValue). NestedRead (nodes_so_far old ids) (nodes_so_far now ids') from first s l) (sym all)
    u.was_read

-- after the last value
pub past_ends : (values : List ValueInfo) (number : ℕ) → length values ≤ number → EndsAt values number
past_ends values number h info listed nested = absurd (omega (arith, h, slice_get_within values number info listed))

pub line_nested : (n : ℕ) (w : Owner) → w ≡ owner.Line n → IsNested w → ⊥
line_nested n w is nested = subst IsNested is nested

-- at a line's value
pub line_ends : (values : List ValueInfo) (number : ℕ) (info : ValueInfo) (n : ℕ) → slice_get values number ≡ Some info
    → info.owner ≡ owner.Line n → EndsAt values number
line_ends values number info n listed is other at nested =
    line_nested n other.owner (ap (λ (i : ValueInfo). i.owner) (same_info other info (sym at ∙ listed)) ∙ is) nested

-- every other owner is a value
pub other_nested : (w : Owner) → ((n : ℕ) → w ≡ owner.Line n → ⊥) → IsNested w
other_nested (owner.Line n) other = absurd (other n refl)
other_nested (owner.Inline g) other = tt
other_nested (owner.Item g) other = tt

-- ---- a fault

pub underway_fault : (bytes : List ℕ) (f : Flat) (base from : ℕ) (old : TrieInfos) (ids : List ℕ) (now : TrieInfos)
    (ids' : List ℕ) (number : ℕ) (info : ValueInfo) (at : ℕ) (why : Why)
    → IsThere f.values number info → AreUnderway bytes f base from old ids now ids' number
    → NestedValueFaults bytes f base info now ids' at why → NestedValuesFault bytes f base from old ids at why
underway_fault bytes f base from old ids now ids' number info at why there under faults s ts first next ms tables
    represents =
    let u = under s ts first next in
    let n = underway_next bytes f base from first old ids now ids' number info s ts there u in
    let one =
    faults (nesting_after s u.done) n.nested n.next (ms ++ all_nested_mentions s u.done) tables
    (u.was_read.represents ms tables represents) in
    let rest : List Mention = all_nested_mentions (next_nesting (nesting_after s u.done) n.nested) n.rest in
    let mentioned : all_nested_mentions s ts ≡ all_nested_mentions s u.done
    ++ (nested_mentions (nesting_after s u.done) n.nested ++ rest) =
    ap (all_nested_mentions s) (u.whole ∙ ap (λ l. u.done ++ l) n.split)
    ∙ all_nested_mentions-append s u.done (n.nested ∷ n.rest) in
    record {
      within = length (marks.marks (all_nested_mentions s u.done)) + one.within;
      sum = omega (arith, one.sum, n.first_is, u.keys);
      fault = subst (λ (w : List Mention).
          FaultIn ms w (length (marks.marks (all_nested_mentions s u.done)) + one.within) why) (sym mentioned)
          (fault_within ms (all_nested_mentions s u.done) (nested_mentions (nesting_after s u.done) n.nested) rest
          one.within why one.fault);
    }

pub underway_faults : (bytes : List ℕ) (f : Flat) (base from : ℕ) (old : TrieInfos) (ids : List ℕ) (now : TrieInfos)
    (ids' : List ℕ) (number : ℕ) (info : ValueInfo) (g : DefineFault)
    → IsThere f.values number info → AreUnderway bytes f base from old ids now ids' number
    → FaultMeets g (NestedValueFaults bytes f base info now ids')
    → FaultMeets g (NestedValuesFault bytes f base from old ids)
underway_faults bytes f base from old ids now ids' number info g there under meets =
    meets_weaker g (NestedValueFaults bytes f base info now ids') (NestedValuesFault bytes f base from old ids)
    (λ at why faults. underway_fault bytes f base from old ids now ids' number info at why there under faults) meets

-- ---- these laws, where the nodes of the values so far are lent as a slice

pub some_next_seen : (bytes : List ℕ) (f : Flat) (base from : ℕ) (old : TrieInfos) (ids : List ℕ) (now : TrieInfos)
    (ids' seen : List ℕ) (number : ℕ) (info : ValueInfo) → seen ≡ ids'
    → IsThere f.values number info → AreUnderway bytes f base from old ids now ids' number
    → (s : NestingState) × (ts : List NestedValue) × (first : ℕ) × AreNext bytes f old.trie ids base from first s ts
    → (s : NestingState) × (t : NestedValue) × IsNext bytes f.keys now.trie seen base info s t
some_next_seen bytes f base from old ids now ids' seen number info same there under next =
    subst (λ (l : List ℕ). (s : NestingState) × (t : NestedValue) × IsNext bytes f.keys now.trie l base info s t)
    (sym same) (some_next bytes f base from old ids now ids' number info there under next)

pub underway_more_seen : (bytes : List ℕ) (f : Flat) (base from : ℕ) (old : TrieInfos) (ids : List ℕ) (now : TrieInfos)
    (ids' seen : List ℕ) (new : TrieInfos) (ids'' : List ℕ) (to number : ℕ) (info : ValueInfo) → seen ≡ ids'
    → ids'' ≡ ids' ++ to ∷ []
    → IsThere f.values number info → AreUnderway bytes f base from old ids now ids' number
    → NestedValueRead bytes f base info now seen new (seen ++ to ∷ []) number
    → AreUnderway bytes f base from old ids new ids'' (number + 1)
underway_more_seen bytes f base from old ids now ids' seen new ids'' to number info same pushed there under was_read =
    underway_more bytes f base from old ids now ids' new ids'' number info there under
    (subst (λ (l : List ℕ). NestedValueRead bytes f base info now ids' new l number) (sym pushed)
    (subst (λ (l : List ℕ). NestedValueRead bytes f base info now l new (l ++ to ∷ []) number) same was_read))

pub underway_faults_seen : (bytes : List ℕ) (f : Flat) (base from : ℕ) (old : TrieInfos) (ids : List ℕ)
    (now : TrieInfos) (ids' seen : List ℕ) (number : ℕ) (info : ValueInfo) (g : DefineFault) → seen ≡ ids'
    → IsThere f.values number info → AreUnderway bytes f base from old ids now ids' number
    → FaultMeets g (NestedValueFaults bytes f base info now seen)
    → FaultMeets g (NestedValuesFault bytes f base from old ids)
underway_faults_seen bytes f base from old ids now ids' seen number info g same there under meets =
    underway_faults bytes f base from old ids now ids' number info g there under
    (subst (λ (l : List ℕ). FaultMeets g (NestedValueFaults bytes f base info now l)) same meets)
