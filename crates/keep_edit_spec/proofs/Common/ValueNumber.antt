-- The number of a node's value: how many values are said before its own. By the rules it is the one value of its path.
--
-- Each mention is numbered by the values that are mentioned before it (`counted_statements`). A node's number is that
-- of the last mention of a value at its path (`number_of_last`); by the rules a second one cannot be there, so nothing
-- after it changes the number (`later_none`). All of this is by induction over the numbered mentions, with a split by
-- whether a mention is at the path (`last_at`, `last_past`). In the other direction, where a number is known, some
-- mention gave it (`alone_of_number`). For the same reason the fact at the path is the one that the value states
-- (`fact_of_value`).
--
-- Theorems: `number_of_value`: the number of a node's value; `alone_of_number`: where a number is known there is a
-- value.
use Rattle.std.proofs.Common.{◌≡◌, ℕ, ◌+◌, Bool, true, false, List, [], ◌∷◌, ◌++◌, map, refl, sym, ap, subst, ◌∙◌}
use Rattle.std.proofs.Common.{arith, Option, Some, None, ◌⊎◌, inl, inr}
use Rattle.std.specs.Prelude.{⊤, fold, if◌then◌else◌}
use Rattle.std.specs.List.{filter_map, cons_option}
use Rattle.keep_syntax.specs.Tree.{Document}
use Rattle.keep_meaning.specs.Fact.{Fact, table, is_value_fact}
use Rattle.keep_path.specs.Path.{Part, same_path}
use Rattle.keep_meaning.specs.Marks.{MentionKind, define, value, begun, item, Mention, Statement, fact_of, Reading}
use Rattle.keep_meaning.specs.Marks.{statement_mentions, next_reading, start}
use Rattle.keep_meaning.specs.Meaning.{mentions_in}
use Rattle.keep_meaning.specs.Counts.{Count, Numbered, is_value, one_if, count_with_mention, next_count, no_count}
use Rattle.keep_meaning.specs.Counts.{numbered_mentions, numbered_from, numbered_in, statements_in}
use Rattle.keep_meaning.specs.Nodes.{is_at, kinds_at, first_of, fact_at, mention_of, numbered_at, last_number}
use Rattle.keep_meaning.specs.Nodes.{value_number}
use Rattle.keep_meaning.proofs.Shared.{mentions-numbered_mentions, mentions-numbered_in, valued, count_after-values}
use Rattle.keep_edit_spec.proofs.Common.Runs.{AllOf, SomeOf, all_map, pairs_split, Allowed, Rules, exclusive}
use Rattle.keep_edit_spec.proofs.Common.Runs.{same_path-sound, same_path-refl}
use Rattle.keep_edit_spec.proofs.Common.SetLaw.{IsAloneAt, exclusive_is_solid, exclusive-solid}
use Rattle.keep_edit_spec.proofs.Common.ValueThere.{fact_head, fact_past}

pub value_is_exclusive : (s : MentionKind) → is_value s ≡ true → exclusive s ≡ true
value_is_exclusive (value f) e = refl
value_is_exclusive (item f) e = refl
value_is_exclusive other e = absurd cc

-- ---- numbered by counting values

abbrev IsCounted : ℕ → List Numbered → Type 0
IsCounted v [] = ⊤
IsCounted v (n ∷ ns) = (n.before.values ≡ v) × IsCounted (v + one_if (is_value n.mention.kind)) ns

counted_from : (v w : ℕ) (ns : List Numbered) → v ≡ w → IsCounted v ns → IsCounted w ns
counted_from v w ns e h = subst (λ (n : ℕ). IsCounted n ns) e h

counted_join : (v : ℕ) (xs ys : List Numbered) → IsCounted v xs → IsCounted (v + valued (map mention_of xs)) ys
    → IsCounted v (xs ++ ys)
counted_join v [] ys h g = counted_from (v + 0) v ys (omega arith) g
counted_join v (x ∷ xs) ys h g =
    let w : ℕ = v + one_if (is_value x.mention.kind) in (
      h.0,
      counted_join w xs ys h.1
          (counted_from (v + valued (map mention_of (x ∷ xs))) (w + valued (map mention_of xs)) ys (omega arith) g),
    )

counted_mentions : (c : Count) (ms : List Mention) → IsCounted c.values (numbered_mentions c ms)
counted_mentions c [] = tt
counted_mentions c (m ∷ ms) = (refl, counted_mentions (count_with_mention c m) ms)

counted_statements : (c : Count) (r : Reading) (ss : List Statement) → IsCounted c.values (numbered_from c r ss)
counted_statements c r [] = tt
counted_statements c r (s ∷ ss) =
    let ms : List Mention = statement_mentions r s in
    counted_join c.values (numbered_mentions c ms) (numbered_from (next_count c ms) (next_reading r s) ss)
    (counted_mentions c ms)
    (counted_from (next_count c ms).values (c.values + valued (map mention_of (numbered_mentions c ms)))
    (numbered_from (next_count c ms) (next_reading r s) ss)
    (count_after-values c ms ∙ ap (λ (l : List Mention). c.values + valued l) (sym (mentions-numbered_mentions c ms)))
    (counted_statements (next_count c ms) (next_reading r s) ss))

-- ---- the last that is said of a path

-- no such thing is said of the path there
abbrev pub NoneAt : (MentionKind → Bool) → List Part → Mention → Type 0
NoneAt is path m = is_at path m ≡ true → is m.kind ≡ false

-- no value is said of the path there
abbrev pub NoValueAt : List Part → Mention → Type 0
NoValueAt = NoneAt is_value

module _ (is : MentionKind → Bool) (path : List Part) where
  abbrev known_after : Option ℕ → Numbered → Option ℕ
  known_after known n = if is n.mention.kind then Some n.before.values else known

  abbrev last_from : Option ℕ → List Numbered → Option ℕ
  last_from known ns = fold known_after known (numbered_at path ns)

  last_past : (known : Option ℕ) (n : Numbered) (ns : List Numbered) → is_at path n.mention ≡ false
      → last_from known (n ∷ ns) ≡ last_from known ns
  last_past known n ns e = rw e refl

  last_at : (known : Option ℕ) (n : Numbered) (ns : List Numbered) → is_at path n.mention ≡ true
      → last_from known (n ∷ ns) ≡ last_from (known_after known n) ns
  last_at known n ns e = rw e refl

  last_preserved : (known : Option ℕ) (ns : List Numbered) → AllOf (NoneAt is path) (map mention_of ns)
      → last_from known ns ≡ known
  last_preserved known [] h = refl
  last_preserved known (n ∷ ns) h = by (is_at path n.mention) refl (last_preserved known ns h.1)
    where
      by : (b : Bool) → is_at path n.mention ≡ b → last_from known ns ≡ known → last_from known (n ∷ ns) ≡ known
      by false e more = last_past known n ns e ∙ more
      by true e more =
          let same : known_after known n ≡ known = ap (λ b. if b then Some n.before.values else known) (h.0 e) in
          last_at known n ns e ∙ ap (λ (k : Option ℕ). last_from k ns) same ∙ more

  last_mentioned : (v : ℕ) (known : Option ℕ) (ns : List Numbered) (earlier : List Mention) (m : Mention)
      (later : List Mention) → IsCounted v ns
      → map mention_of ns ≡ earlier ++ m ∷ later → is_at path m ≡ true → is m.kind ≡ true → AllOf (NoneAt is path) later
      → last_from known ns ≡ Some (v + valued earlier)
  last_mentioned v known [] [] m later counted e here tells none = absurd cc
  last_mentioned v known [] (x ∷ earlier) m later counted e here tells none = absurd cc
  last_mentioned v known (n ∷ ns) [] m later counted e here tells none =
      let one : n.mention ≡ m = cc in
      let more : map mention_of ns ≡ later = cc in
      let at : is_at path n.mention ≡ true = ap (is_at path) one ∙ here in
      let stated : is n.mention.kind ≡ true = ap (λ (x : Mention). is x.kind) one ∙ tells in
      let known_here : known_after known n ≡ Some n.before.values =
      ap (λ b. if b then Some n.before.values else known) stated in
      last_at known n ns at
      ∙ ap (λ (k : Option ℕ). last_from k ns) known_here
      ∙ last_preserved (Some n.before.values) ns (subst (AllOf (NoneAt is path)) (sym more) none)
      ∙ ap Some (counted.0 ∙ omega arith)
  last_mentioned v known (n ∷ ns) (x ∷ earlier) m later counted e here tells none =
      let one : n.mention ≡ x = cc in
      let more : map mention_of ns ≡ earlier ++ m ∷ later = cc in
      let w : ℕ = v + one_if (is_value n.mention.kind) in
      let after : (k : Option ℕ) → last_from k ns ≡ Some (w + valued earlier) =
      λ k. last_mentioned w k ns earlier m later counted.1 more here tells none in
      let sum : w + valued earlier ≡ v + valued (x ∷ earlier) =
      omega (arith, ap (λ (y : Mention). one_if (is_value y.kind)) one) in
      by (is_at path n.mention) refl after ∙ ap Some sum
    where
      by : (b : Bool) → is_at path n.mention ≡ b
          → ((k : Option ℕ) → last_from k ns ≡ Some (v + one_if (is_value n.mention.kind) + valued earlier))
          → last_from known (n ∷ ns) ≡ Some (v + one_if (is_value n.mention.kind) + valued earlier)
      by false at h = last_past known n ns at ∙ h known
      by true at h = last_at known n ns at ∙ h (known_after known n)

-- What is said last of a path has the number of the values that are said before.
pub number_of_last : (is : MentionKind → Bool) (path : List Part) (s : Document) (earlier : List Mention) (m : Mention)
    (later : List Mention) → mentions_in s ≡ earlier ++ m ∷ later
    → m.path ≡ path → is m.kind ≡ true → AllOf (NoneAt is path) later
    → last_number is value_number (numbered_at path (numbered_in s)) ≡ Some (valued earlier)
number_of_last is path s earlier m later mentioned place tells none =
    let here : is_at path m ≡ true = ap (λ (q : List Part). same_path q path) place ∙ same_path-refl path in
    let last : last_from is path None (numbered_in s) ≡ Some (0 + valued earlier) =
    last_mentioned is path 0 None (numbered_in s) earlier m later (counted_statements no_count start (statements_in s))
    (mentions-numbered_in s ∙ mentioned) here tells none in
    let sum : 0 + valued earlier ≡ valued earlier = omega arith in
    last ∙ ap Some sum

-- where a number is known there is a value
alone_of_last : (path : List Part) (v : ℕ) (known : Option ℕ) (ns : List Numbered)
    → last_from is_value path known ns ≡ Some v → (known ≡ Some v) ⊎ SomeOf (IsAloneAt path) (map mention_of ns)
alone_of_last path v known [] e = inl e
alone_of_last path v known (n ∷ ns) e =
    by (is_at path n.mention) refl (is_value n.mention.kind) refl (λ k. alone_of_last path v k ns)
  where
    Found : Type 0
    Found = (known ≡ Some v) ⊎ SomeOf (IsAloneAt path) (map mention_of (n ∷ ns))

    by : (b : Bool) → is_at path n.mention ≡ b → (c : Bool) → is_value n.mention.kind ≡ c
        → ((k : Option ℕ) → last_from is_value path k ns ≡ Some v
        → (k ≡ Some v) ⊎ SomeOf (IsAloneAt path) (map mention_of ns)) → Found
    by false at c is more =
        elim (more known (sym (last_past is_value path known n ns at) ∙ e)) [ inl k ↦ inl k | inr h ↦ inr (inr h) ]
    by true at true is more =
        inr (inl (record {
          path = same_path-sound n.mention.path path at;
          kind = value_is_exclusive n.mention.kind is;
        }))
    by true at false is more =
        let same : known_after is_value path known n ≡ known = ap (λ b. if b then Some n.before.values else known) is in
        elim (more known (sym (last_at is_value path known n ns at
        ∙ ap (λ (k : Option ℕ). last_from is_value path k ns) same) ∙ e)) [ inl k ↦ inl k | inr h ↦ inr (inr h) ]

pub alone_of_number : (path : List Part) (s : Document) (v : ℕ)
    → last_number is_value value_number (numbered_at path (numbered_in s)) ≡ Some v
    → SomeOf (IsAloneAt path) (mentions_in s)
alone_of_number path s v e =
    let first : last_from is_value path None (numbered_in s) ≡ Some v = e in
    elim (alone_of_last path v None (numbered_in s) first) [
      | inl k ↦ absurd cc
      | inr h ↦ subst (λ (l : List Mention). SomeOf (IsAloneAt path) l) (mentions-numbered_in s) h
    ]

-- ---- by the rules

-- two values are not said of one path
two_values : (a b : Mention) → is_value a.kind ≡ true → is_value b.kind ≡ true → a.path ≡ b.path → Allowed a b → ⊥
two_values a b ea eb same h =
    let one : exclusive a.kind ≡ true = value_is_exclusive a.kind ea in
    let k : true ≡ false =
    sym (h same) ∙ exclusive-solid a.kind b.kind one (exclusive_is_solid b.kind (value_is_exclusive b.kind eb)) in
    absurd cc

pub false_unless : (b : Bool) → (b ≡ true → ⊥) → b ≡ false
false_unless true h = absurd (h refl)
false_unless false h = refl

later_none : (path : List Part) (m : Mention) (later : List Mention) → m.path ≡ path → is_value m.kind ≡ true
    → AllOf (Allowed m) later → AllOf (NoValueAt path) later
later_none path m later place is h =
    all_map (Allowed m) (NoValueAt path)
    (λ x a e. false_unless (is_value x.kind) (λ t. two_values m x is t (place ∙ sym (same_path-sound x.path path e)) a))
    later h

earlier_none : (path : List Part) (m : Mention) (later earlier : List Mention) → m.path ≡ path → is_value m.kind ≡ true
    → AllOf (λ x. AllOf (Allowed x) (m ∷ later)) earlier → AllOf (NoValueAt path) earlier
earlier_none path m later earlier place is h =
    all_map (λ x. AllOf (Allowed x) (m ∷ later)) (NoValueAt path)
    (λ x a e. false_unless (is_value x.kind) (λ t. two_values x m t is (same_path-sound x.path path e ∙ sym place) a.0))
    earlier h

-- The number of the node's value is how many values are said before its own.
pub number_of_value : (path : List Part) (s : Document) (earlier : List Mention) (m : Mention) (later : List Mention)
    → Rules (mentions_in s) → mentions_in s ≡ earlier ++ m ∷ later
    → m.path ≡ path → is_value m.kind ≡ true
    → last_number is_value value_number (numbered_at path (numbered_in s)) ≡ Some (valued earlier)
number_of_value path s earlier m later rules mentioned place is =
    let split = pairs_split Allowed earlier (m ∷ later) (subst Rules mentioned rules) in
    number_of_last is_value path s earlier m later mentioned place is (later_none path m later place is split.right.0)

-- ---- the fact of the path is the one that is said with the value

no_fact : (s : MentionKind) (f : Fact) → is_value s ≡ false → fact_of s ≡ Some f → is_value_fact f ≡ true → ⊥
no_fact define f n e h =
    let t : f ≡ table = cc in let k : is_value_fact table ≡ true = ap is_value_fact (sym t) ∙ h in absurd cc
no_fact begun f n e h =
    let t : f ≡ table = cc in let k : is_value_fact table ≡ true = ap is_value_fact (sym t) ∙ h in absurd cc
no_fact other f n e h = absurd cc

fact_mentioned : (path : List Part) (earlier : List Mention) (m : Mention) (later : List Mention) (f g : Fact)
    → AllOf (NoValueAt path) earlier → is_at path m ≡ true → fact_of m.kind ≡ Some g
    → fact_at path (earlier ++ m ∷ later) ≡ Some f → is_value_fact f ≡ true → f ≡ g
fact_mentioned path [] m later f g none here stated e h =
    let k : Some f ≡ Some g =
    sym e ∙ fact_head path m later here
    ∙ ap (λ (o : Option Fact). first_of (cons_option o (filter_map fact_of (kinds_at path later)))) stated in
    cc
fact_mentioned path (x ∷ earlier) m later f g none here stated e h =
    by (is_at path x) refl (fact_of x.kind) refl (λ k. fact_mentioned path earlier m later f g none.1 here stated k h)
  where
    rest : List Mention
    rest = earlier ++ m ∷ later

    by : (b : Bool) → is_at path x ≡ b → (o : Option Fact) → fact_of x.kind ≡ o → (fact_at path rest ≡ Some f → f ≡ g)
        → f ≡ g
    by false k o u more = more (sym (fact_past path x rest k) ∙ e)
    by true k None u more =
        more (sym (fact_head path x rest k
        ∙ ap (λ (o : Option Fact). first_of (cons_option o (filter_map fact_of (kinds_at path rest)))) u) ∙ e)
    by true k (Some d) u more =
        let same : Some d ≡ Some f =
        sym (fact_head path x rest k
        ∙ ap (λ (o : Option Fact). first_of (cons_option o (filter_map fact_of (kinds_at path rest)))) u) ∙ e in
        absurd (no_fact x.kind f (none.0 k) (u ∙ same) h)

pub fact_of_value : (path : List Part) (s : Document) (earlier : List Mention) (m : Mention) (later : List Mention)
    (f g : Fact) → Rules (mentions_in s) → mentions_in s ≡ earlier ++ m ∷ later
    → m.path ≡ path → is_value m.kind ≡ true → fact_of m.kind ≡ Some g → fact_at path (mentions_in s) ≡ Some f
    → is_value_fact f ≡ true → f ≡ g
fact_of_value path s earlier m later f g rules mentioned place is stated e h =
    let split = pairs_split Allowed earlier (m ∷ later) (subst Rules mentioned rules) in
    let here : is_at path m ≡ true = ap (λ (q : List Part). same_path q path) place ∙ same_path-refl path in
    fact_mentioned path earlier m later f g (earlier_none path m later earlier place is split.across) here stated
    (ap (fact_at path) (sym mentioned) ∙ e) h
