-- How what keyvals say hangs together: from a key part a keyval continues to the next key part, one step below it, and
-- each key part but the first comes after the one above it. Both have the number of the keyval's value.
--
-- What gives a node one step below a path (`IsStep`) comes from the path's own value or item, or from a keyval of the
-- same number that continues from the path, or it is the first that is said at all (`Starts`, `Inside`, `In`). This is
-- an induction over the entries of a value. So a line's keyval comes from the table that the line is in, and a header
-- opens that table, if it is not the root (`linked_from`).
--
-- Theorem: `linked_in`.
use Rattle.std.proofs.Common.{◌≡◌, ℕ, ◌+◌, Bool, true, false, ◌||◌, List, [], ◌∷◌, ◌++◌, map, refl, sym, ap, subst, ◌∙◌}
use Rattle.std.proofs.Common.{append_assoc, ◌⊎◌, inl, inr, arith, Option, Some, None}
use Rattle.std.specs.Prelude.{◌==◌, if◌then◌else◌}
use Rattle.std.specs.List.{cons_option, filter_map}
use Rattle.std.proofs.lemmas.Bool.{or_parts, or_right}
use Rattle.std.proofs.lemmas.List.{append-nil}
use Rattle.keep_syntax.specs.Tree.{Name, Entries, none, entry, Content, blank, keyval, header, element, Line, Document}
use Rattle.keep_path.specs.Path.{Part, key, index}
use Rattle.keep_meaning.specs.Counts.{Count, Numbered, count_after, count_with_mention, is_value, line_statement}
use Rattle.keep_meaning.specs.Counts.{next_count, no_count, numbered_from, numbered_in, numbered_mentions}
use Rattle.keep_meaning.specs.Counts.{statements_in}
use Rattle.keep_meaning.specs.Fact.{Fact}
use Rattle.keep_meaning.specs.Marks.{MentionKind, past, define, dotted, passed, through, item, value as mentions_value}
use Rattle.keep_meaning.specs.Marks.{Mention, Reading, Statement, below, elements_of, entered_path, header_path}
use Rattle.keep_meaning.specs.Marks.{header_prefixes, next_reading, passing_mentions, start, statement_mentions}
use Rattle.keep_meaning.specs.Meaning.{body_fact, entries_mentions, entry_mentions, further_value, key_value}
use Rattle.keep_meaning.specs.Meaning.{keyed_mentions, keys_of, lines, statement_of, valued_mentions}
use Rattle.keep_meaning.specs.Nodes.{is_begun, is_define, is_dotted}
use Rattle.keep_meaning.proofs.CountLemmas.{numbered_mentions-append}
use Rattle.keep_meaning.proofs.ElementLemmas.{IsSound, IsSoundStatement, Opens, no_longer, sound_statements}
use Rattle.keep_meaning.proofs.LineNumberLemmas.{AllOf, all_join, all_of}
use Rattle.keep_meaning.proofs.NamedLemmas.{SomeOf, all_map, some_left, some_map, some_right}

-- ---- what is said of a path, and of those one step below it

-- a keyval's key part, or an item
abbrev pub is_given : MentionKind → Bool
is_given k = is_dotted k || is_value k

-- what is said of no table of dotted keys
abbrev pub is_other : MentionKind → Bool
is_other k = is_value k || (is_define k || is_begun k)

abbrev pub IsOther : List Part → Numbered → Type 0
IsOther p n = (is_other n.mention.kind ≡ true) × (n.mention.path ≡ p)

-- the keyval whose value has this number continues from the path
abbrev pub Continues : List Part → ℕ → Numbered → Type 0
Continues p w n = ((is_dotted n.mention.kind ≡ true) × (n.before.values ≡ w)) × (n.mention.path ≡ p)

-- and this is its next key part
abbrev pub Follows : List Part → ℕ → Numbered → Type 0
Follows p w n =
    ((is_given n.mention.kind ≡ true) × (n.before.values ≡ w)) × ((k : List ℕ) × (n.mention.path ≡ p ++ key k ∷ []))

-- from which what is said one step below the path comes, if it does not come from the first path
abbrev pub From : (List Part → ℕ → Type 0) → List Numbered → List Part → ℕ → Type 0
From First ns p w = First p w ⊎ (SomeOf (IsOther p) ns ⊎ SomeOf (Continues p w) ns)

pub record IsStep (First : List Part → ℕ → Type 0) (ns : List Numbered) (n : Numbered) : Type 0 where
  pub above : List Part
  pub last : Part
  pub path : n.mention.path ≡ above ++ last ∷ []
  pub from : From First ns above n.before.values

pub record IsLinked (First : List Part → ℕ → Type 0) (ns : List Numbered) (n : Numbered) : Type 0 where
  pub step : is_given n.mention.kind ≡ true → IsStep First ns n
  pub next : is_dotted n.mention.kind ≡ true → SomeOf (Follows n.mention.path n.before.values) ns

abbrev pub AreLinked : (List Part → ℕ → Type 0) → List Numbered → Type 0
AreLinked First ns = AllOf (IsLinked First ns) ns

-- ---- among more, and below a path

linked_of : (First Other : List Part → ℕ → Type 0) (ns all : List Numbered)
    → ((p : List Part) (w : ℕ) → From First ns p w → From Other all p w)
    → ((p : List Part) (w : ℕ) → SomeOf (Follows p w) ns → SomeOf (Follows p w) all)
    → (n : Numbered) → IsLinked First ns n → IsLinked Other all n
linked_of First Other ns all from follow n h = record {
  step = λ is. by (h.step is);
  next = λ is. follow n.mention.path n.before.values (h.next is);
}
  where
    by : IsStep First ns n → IsStep Other all n
    by s =
        record { above = s.above; last = s.last; path = s.path; from = from s.above n.before.values s.from }

from_left : (First : List Part → ℕ → Type 0) (xs ys : List Numbered) (p : List Part) (w : ℕ) → From First xs p w
    → From First (xs ++ ys) p w
from_left First xs ys p w (inl h) = inl h
from_left First xs ys p w (inr (inl h)) = inr (inl (some_left (IsOther p) xs ys h))
from_left First xs ys p w (inr (inr h)) = inr (inr (some_left (Continues p w) xs ys h))

from_right : (First : List Part → ℕ → Type 0) (xs ys : List Numbered) (p : List Part) (w : ℕ) → From First ys p w
    → From First (xs ++ ys) p w
from_right First xs ys p w (inl h) = inl h
from_right First xs ys p w (inr (inl h)) = inr (inl (some_right (IsOther p) xs ys h))
from_right First xs ys p w (inr (inr h)) = inr (inr (some_right (Continues p w) xs ys h))

linked_left : (First : List Part → ℕ → Type 0) (xs ys : List Numbered) → AreLinked First xs
    → AllOf (IsLinked First (xs ++ ys)) xs
linked_left First xs ys h =
    all_of (IsLinked First xs) (IsLinked First (xs ++ ys))
    (linked_of First First xs (xs ++ ys) (from_left First xs ys) (λ p w. some_left (Follows p w) xs ys)) xs h

linked_join : (First : List Part → ℕ → Type 0) (xs ys : List Numbered) → AreLinked First xs → AreLinked First ys
    → AreLinked First (xs ++ ys)
linked_join First xs ys h g =
    all_join (IsLinked First (xs ++ ys)) xs ys (linked_left First xs ys h)
    (all_of (IsLinked First ys) (IsLinked First (xs ++ ys))
    (linked_of First First ys (xs ++ ys) (from_right First xs ys) (λ p w. some_right (Follows p w) xs ys)) ys g)

abbrev under : List Part → Numbered → Numbered
under at n = record { mention = below at n.mention; before = n.before }

numbered_under : (at : List Part) (c : Count) (ms : List Mention)
    → numbered_mentions c (map (below at) ms) ≡ map (under at) (numbered_mentions c ms)
numbered_under at c [] = refl
numbered_under at c (m ∷ ms) =
    ap (λ (ns : List Numbered). record { mention = below at m; before = c } ∷ ns)
    (numbered_under at (count_with_mention c m) ms)

-- what is said below a path, after what else is said
module _ (First Other : List Part → ℕ → Type 0) (at : List Part) (xs ns : List Numbered)
    (first : (p : List Part) (w : ℕ) → First p w → From Other (xs ++ map (under at) ns) (at ++ p) w) where
  abbrev all : List Numbered
  all = xs ++ map (under at) ns

  from_under : (p : List Part) (w : ℕ) → From First ns p w → From Other all (at ++ p) w
  from_under p w (inl h) = first p w h
  from_under p w (inr (inl h)) =
      inr (inl (some_right (IsOther (at ++ p)) xs (map (under at) ns)
      (some_map (IsOther p) (IsOther (at ++ p)) (under at) (λ n s. (s.0, ap (λ (q : List Part). at ++ q) s.1)) ns h)))
  from_under p w (inr (inr h)) =
      inr (inr (some_right (Continues (at ++ p) w) xs (map (under at) ns)
      (some_map (Continues p w) (Continues (at ++ p) w) (under at)
      (λ n s. (s.0, ap (λ (q : List Part). at ++ q) s.1)) ns h)))

  follow_under : (p : List Part) (w : ℕ) → SomeOf (Follows p w) ns → SomeOf (Follows (at ++ p) w) all
  follow_under p w h =
      some_right (Follows (at ++ p) w) xs (map (under at) ns)
      (some_map (Follows p w) (Follows (at ++ p) w) (under at)
      (λ n s. (
        s.0,
        (s.1.0, ap (λ (q : List Part). at ++ q) s.1.1 ∙ sym (append_assoc at p (key s.1.0 ∷ []))),
      )) ns h)

  one_under : (n : Numbered) → IsLinked First ns n → IsLinked Other all (under at n)
  one_under n h = record {
    step = λ is. by (h.step is);
    next = λ is. follow_under n.mention.path n.before.values (h.next is);
  }
    where
      by : IsStep First ns n → IsStep Other all (under at n)
      by s = record {
        above = at ++ s.above;
        last = s.last;
        path = ap (λ (q : List Part). at ++ q) s.path ∙ sym (append_assoc at s.above (s.last ∷ []));
        from = from_under s.above n.before.values s.from;
      }

  linked_under : AreLinked First ns → AllOf (IsLinked Other all) (map (under at) ns)
  linked_under h = all_map (IsLinked First ns) (IsLinked Other all) (under at) one_under ns h

-- ---- entries

-- the first that is said has this number, and is one step long
abbrev Starts : ℕ → List Part → ℕ → Type 0
Starts v p w = (p ≡ []) × (w ≡ v)

abbrev Inside : List Part → ℕ → Type 0
Inside p w = p ≡ []

abbrev IsLinkedInside : List Mention → Type 0
IsLinkedInside ms = (c : Count) → AreLinked Inside (numbered_mentions c ms)

-- a value, and what is said in it
module _ (x : Part) (k : MentionKind) (nested : List Mention) (c : Count) where
  abbrev value_own : Numbered
  value_own = record { mention = record { path = x ∷ []; kind = k }; before = c }

  abbrev value_next : Count
  value_next = count_with_mention c value_own.mention

  linked_value : is_value k ≡ true → is_dotted k ≡ false → IsLinkedInside nested
      → AreLinked (Starts c.values) (numbered_mentions c (map (below (x ∷ [])) (valued_mentions k nested)))
  linked_value is not h = (
    record {
      step = λ e. record { above = []; last = x; path = refl; from = inl (refl, refl) };
      next = λ e. absurd (no_longer (is_dotted k) e not);
    },
    subst (λ (ns : List Numbered). AllOf (IsLinked (Starts c.values) (value_own ∷ ns)) ns)
        (sym (numbered_under (x ∷ []) value_next nested))
        (linked_under Inside (Starts c.values) (x ∷ []) (value_own ∷ []) (numbered_mentions value_next nested)
        (λ p w e. inr (inl (inl (holds, ap (λ (q : List Part). x ∷ q) (sym e))))) (h value_next)),
  )
    where
      holds : is_other k ≡ true
      holds = ap (λ (b : Bool). b || (is_define k || is_begun k)) is

first_follows : (at : List Part) (c : Count) (v : ℕ) (l : List ℕ) (ks : List (List ℕ)) (f : Fact)
    (nested : List Mention) → c.values ≡ v
    → SomeOf (Follows at v)
    (numbered_mentions c (map (below at) (keyed_mentions (l ∷ ks) (valued_mentions (mentions_value f) nested))))
first_follows at c v l [] f nested e = inl ((refl, e), (l, refl))
first_follows at c v l (k ∷ ks) f nested e = inl ((refl, e), (l, refl))

-- a key part, and what is said by those after it
module _ (k : List ℕ) (rest : List Mention) (c : Count) where
  abbrev key_own : Numbered
  key_own = record { mention = record { path = key k ∷ []; kind = dotted }; before = c }

  abbrev key_next : Count
  key_next = count_with_mention c key_own.mention

  same_number : key_next.values ≡ c.values
  same_number = omega arith

  linked_key : SomeOf (Follows (key k ∷ []) c.values) (numbered_mentions key_next (map (below (key k ∷ [])) rest))
      → AreLinked (Starts key_next.values) (numbered_mentions key_next rest)
      → AreLinked (Starts c.values) (key_own ∷ numbered_mentions key_next (map (below (key k ∷ [])) rest))
  linked_key follow h = (
    record {
      step = λ e. record { above = []; last = key k; path = refl; from = inl (refl, refl) };
      next = λ e. inr follow;
    },
    subst (λ (ns : List Numbered). AllOf (IsLinked (Starts c.values) (key_own ∷ ns)) ns)
        (sym (numbered_under (key k ∷ []) key_next rest))
        (linked_under (Starts key_next.values) (Starts c.values) (key k ∷ []) (key_own ∷ [])
        (numbered_mentions key_next rest)
        (λ p w s.
        inr (inr (inl ((refl, sym (s.1 ∙ same_number)), ap (λ (q : List Part). key k ∷ q) (sym s.0))))) h),
  )

-- the key parts of a keyval, with its value
linked_keys : (k : List ℕ) (ks : List (List ℕ)) (f : Fact) (nested : List Mention) → IsLinkedInside nested
    → (c : Count)
    → AreLinked (Starts c.values)
    (numbered_mentions c (keyed_mentions (k ∷ ks) (valued_mentions (mentions_value f) nested)))
linked_keys k [] f nested h c = linked_value (key k) (mentions_value f) nested c refl refl h
linked_keys k (l ∷ ks) f nested h c =
    let rest : List Mention = keyed_mentions (l ∷ ks) (valued_mentions (mentions_value f) nested) in
    let next : Count = key_next k rest c in
    linked_key k rest c (first_follows (key k ∷ []) next c.values l ks f nested (same_number k rest c))
    (linked_keys l ks f nested h next)

linked_inside : (v : ℕ) (ns : List Numbered) → AreLinked (Starts v) ns → AreLinked Inside ns
linked_inside v ns h =
    all_of (IsLinked (Starts v) ns) (IsLinked Inside ns) (linked_of (Starts v) Inside ns ns from (λ p w s. s)) ns h
  where
    from : (p : List Part) (w : ℕ) → From (Starts v) ns p w → From Inside ns p w
    from p w (inl s) = inl s.0
    from p w (inr s) = inr s

linked_entry : (n : ℕ) (name : Option Name) (f : Fact) (nested : List Mention) → IsLinkedInside nested
    → IsLinkedInside (entry_mentions n name f nested)
linked_entry n None f nested h c =
    linked_inside c.values (numbered_mentions c (entry_mentions n None f nested))
    (linked_value (index n) (item f) nested c refl refl h)
linked_entry n (Some name) f nested h c =
    linked_inside c.values (numbered_mentions c (entry_mentions n (Some name) f nested))
    (linked_keys (key_value name.key.first) (map further_value name.key.more) f nested h c)

linked_entries : (n : ℕ) (es : Entries) → IsLinkedInside (entries_mentions n es)
linked_entries n none c = tt
linked_entries n (entry name body nested after comma rest) c =
    let xs : List Mention = entry_mentions n name (body_fact body) (entries_mentions 0 nested) in
    let ys : List Mention = entries_mentions (n + 1) rest in
    subst (AreLinked Inside) (sym (numbered_mentions-append c xs ys))
    (linked_join Inside (numbered_mentions c xs) (numbered_mentions (count_after c xs) ys)
    (linked_entry n name (body_fact body) (entries_mentions 0 nested) (linked_entries 0 nested) c)
    (linked_entries (n + 1) rest (count_after c xs)))

-- ---- statements

-- one step below the table that further keyvals are in
abbrev pub In : List Part → List Part → ℕ → Type 0
In body p w = p ≡ body

abbrev IsLinkedStatement : Statement → Type 0
IsLinkedStatement s = (c : Count) (r : Reading) → AreLinked (In r.body) (numbered_mentions c (statement_mentions r s))

linked_line : (body : List Part) (name : Name) (f : Fact) (es : Entries) (c : Count)
    → AreLinked (In body)
    (numbered_mentions c (map (below body) (entry_mentions 0 (Some name) f (entries_mentions 0 es))))
linked_line body name f es c =
    let ms : List Mention = entry_mentions 0 (Some name) f (entries_mentions 0 es) in
    subst (AreLinked (In body)) (sym (numbered_under body c ms))
    (linked_under Inside (In body) body [] (numbered_mentions c ms)
    (λ p w e. inl (ap (λ (q : List Part). body ++ q) e ∙ append-nil body))
    (linked_entry 0 (Some name) f (entries_mentions 0 es) (linked_entries 0 es) c))

-- a header says nothing of values
abbrev IsSilent : Mention → Type 0
IsSilent m = is_given m.kind ≡ false

linked_silent : (First : List Part → ℕ → Type 0) (whole : List Numbered) (c : Count) (ms : List Mention)
    → AllOf IsSilent ms → AllOf (IsLinked First whole) (numbered_mentions c ms)
linked_silent First whole c [] h = tt
linked_silent First whole c (m ∷ ms) h = (
  record {
    step = λ is. absurd (no_longer (is_given m.kind) is h.0);
    next = λ is. absurd (no_longer (is_dotted m.kind) is (or_parts (is_dotted m.kind) (is_value m.kind) h.0).0);
  },
  linked_silent First whole (count_with_mention c m) ms h.1,
)

prefixes_silent : (tables : List (List Part)) (at : List Part) (ks : List (List ℕ))
    → AllOf IsSilent (header_prefixes tables at ks)
prefixes_silent tables at [] = tt
prefixes_silent tables at (k ∷ []) = tt
prefixes_silent tables at (k ∷ l ∷ ks) =
    let path : List Part = at ++ key k ∷ [] in
    all_join IsSilent (passing_mentions tables path) (header_prefixes tables (entered_path tables path) (l ∷ ks))
    (by (0 == elements_of path tables)) (prefixes_silent tables (entered_path tables path) (l ∷ ks))
  where
    by : (b : Bool) → (let path : List Part = at ++ key k ∷ [] in
        AllOf IsSilent (if b then record { path = path; kind = through } ∷ [] else record { path = path; kind = past }
        ∷ record { path = entered_path tables path; kind = passed } ∷ []))
    by true = (refl, tt)
    by false = (refl, (refl, tt))

linked_header : (c : Count) (r : Reading) (ks : List (List ℕ)) (last : List Mention) → AllOf IsSilent last
    → AreLinked (In r.body) (numbered_mentions c (header_prefixes r.tables [] ks ++ last))
linked_header c r ks last h =
    let ms : List Mention = header_prefixes r.tables [] ks ++ last in
    linked_silent (In r.body) (numbered_mentions c ms) c ms
    (all_join IsSilent (header_prefixes r.tables [] ks) last (prefixes_silent r.tables [] ks) h)

linked_content : (c : Content) (ss : List Statement) → AllOf IsLinkedStatement ss
    → AllOf IsLinkedStatement (cons_option (statement_of c) ss)
linked_content blank ss h = h
linked_content (keyval name v) ss h = ((λ c r. linked_line r.body name (body_fact v.body) v.nested c), h)
linked_content (header before k after) ss h = (
  λ c r. linked_header c r (keys_of k) (record { path = header_path r.tables [] (keys_of k); kind = define } ∷ [])
      (refl, tt),
  h,
)
linked_content (element before k after) ss h = ((λ c r. linked_header c r (keys_of k) _ (refl, (refl, tt))), h)

linked_lines : (ls : List Line) → AllOf IsLinkedStatement (filter_map line_statement ls)
linked_lines [] = tt
linked_lines (l ∷ ls) = linked_content l.content (filter_map line_statement ls) (linked_lines ls)

opened : (p : List Part) (c : Count) (ms : List Mention) → SomeOf (Opens p) ms
    → SomeOf (IsOther p) (numbered_mentions c ms)
opened p c [] h = h
opened p c (m ∷ ms) (inl h) = inl (or_right (is_value m.kind) (is_define m.kind || is_begun m.kind) h.0, h.1)
opened p c (m ∷ ms) (inr h) = inr (opened p (count_with_mention c m) ms h)

-- a statement, and those after it
module _ (c : Count) (r : Reading) (s : Statement) (ss : List Statement) where
  abbrev next_body : List Part
  next_body = (next_reading r s).body

  abbrev own_said : List Numbered
  own_said = numbered_mentions c (statement_mentions r s)

  abbrev later_said : List Numbered
  later_said = numbered_from (next_count c (statement_mentions r s)) (next_reading r s) ss

  linked_next : IsSound r (next_reading r s) (statement_mentions r s) → AreLinked (In r.body) own_said
      → AreLinked (In next_body) later_said → AreLinked (In r.body) (own_said ++ later_said)
  linked_next sound h g =
      all_join (IsLinked (In r.body) (own_said ++ later_said)) own_said later_said
      (linked_left (In r.body) own_said later_said h)
      (all_of (IsLinked (In next_body) later_said) (IsLinked (In r.body) (own_said ++ later_said))
      (linked_of (In next_body) (In r.body) later_said (own_said ++ later_said) from
      (λ p w. some_right (Follows p w) own_said later_said)) later_said g)
    where
      by : (p : List Part) (w : ℕ) → (r.body ≡ p) ⊎ SomeOf (Opens p) (statement_mentions r s)
          → From (In r.body) (own_said ++ later_said) p w
      by p w (inl same) = inl (sym same)
      by p w (inr o) =
          inr (inl (some_left (IsOther p) own_said later_said (opened p c (statement_mentions r s) o)))

      from : (p : List Part) (w : ℕ) → From (In next_body) later_said p w
          → From (In r.body) (own_said ++ later_said) p w
      from p w (inl e) = by p w (sound.body p (sym e))
      from p w (inr (inl o)) = inr (inl (some_right (IsOther p) own_said later_said o))
      from p w (inr (inr o)) = inr (inr (some_right (Continues p w) own_said later_said o))

linked_from : (c : Count) (r : Reading) (ss : List Statement) → AllOf IsLinkedStatement ss → AllOf IsSoundStatement ss
    → AreLinked (In r.body) (numbered_from c r ss)
linked_from c r [] h g = tt
linked_from c r (s ∷ ss) h g =
    linked_next c r s ss (g.0 r) (h.0 c r)
    (linked_from (next_count c (statement_mentions r s)) (next_reading r s) ss h.1 g.1)

-- Of all that a document says, the first comes from the root.
pub linked_in : (d : Document) → AreLinked (In []) (numbered_in d)
linked_in d = linked_from no_count start (statements_in d) (linked_lines (lines d)) (sound_statements d)
