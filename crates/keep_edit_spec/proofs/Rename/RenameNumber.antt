-- The key part that `rename` replaces is the one that is known of the path's node: the first that names it, where one
-- alone does.
--
-- Key parts and marks come in the same order, so the number of a key part is that of the marks before it
-- (`counted_statements`). What is known of a node has the number of the first mark at its path (`first_mark`, by
-- induction). Where one mark alone is at the path, the mention that `rename_place` found is that first mark, since no
-- mark at the path comes before it (`none_earlier`). Then the change is at the span of that key part.
--
-- Theorems: `rename_placed`: the change is at the key part that is known of the node; `rename_place_is`: the stated
-- place is that one.
use Rattle.std.proofs.Common.{◌≡◌, ℕ, ◌+◌, Bool, true, false, cond, List, [], ◌∷◌, ◌++◌, length, map, slice_get, refl}
use Rattle.std.proofs.Common.{sym, ap, subst, ◌∙◌, arith, Option, Some, None}
use Rattle.std.specs.Prelude.{⊤}
use Rattle.std.specs.List.{count_by}
use Rattle.std.specs.Option.{option_map, option_and_then}
use Rattle.std.proofs.lemmas.List.Elements.{filter_map-append}
use Rattle.std.proofs.lemmas.List.Sums.{sum_by-append}
use Rattle.keep_token.specs.Encoded.{encoded_key}
use Rattle.keep_types.specs.declared.syntax.KeyPart.{KeyPart}
use Rattle.keep_syntax.specs.Tree.{Document}
use Rattle.keep_syntax.specs.Numbered as syntax
use Rattle.keep_types.specs.declared.role.Role.{Role}
use Rattle.keep_types.specs.declared.role.Role.TheVariants as role
use Rattle.keep_path.specs.Path.{Part, same_path}
use Rattle.keep_meaning.specs.Rules.{Mark}
use Rattle.keep_meaning.specs.Marks.{MentionKind, through, past, define, element, dotted, value, begun, passed, item}
use Rattle.keep_meaning.specs.Marks.{Mention, Statement, mark_of, role_of, marks, Reading, statement_mentions}
use Rattle.keep_meaning.specs.Marks.{next_reading, start}
use Rattle.keep_meaning.specs.Meaning.{mentions_in}
use Rattle.keep_meaning.specs.Counts.{Count, Numbered, is_mark, one_if, count_with_mention, next_count, no_count}
use Rattle.keep_meaning.specs.Counts.{numbered_mentions, numbered_from, numbered_in, statements_in}
use Rattle.keep_meaning.specs.Nodes.{is_at, mark_count, mention_of, numbered_at, first_number, key_number, key_span}
use Rattle.keep_meaning.specs.Nodes.{key_span_of, node_at}
use Rattle.keep_meaning.proofs.Shared.{mentions-numbered_mentions, mentions-numbered_in, one_mark, count_after-keys}
use Rattle.keep_meaning.proofs.Shared.{marked}
use Rattle.keep_edit_spec.specs.Changed.{Changed, Place, place_of}
use Rattle.keep_edit_spec.specs.Edits.{rename, change, changed_or_same, place, key_part}
use Rattle.keep_edit_spec.proofs.Common.Runs.{same_path-refl}
use Rattle.keep_edit_spec.proofs.Common.DoneAtValue.{EachOf}
use Rattle.keep_edit_spec.proofs.Rename.RenameOnce.{counted, uncounted}
use Rattle.keep_edit_spec.proofs.Rename.RenamePlace.{IsRenamedIn, rename_place}

-- ---- a mark has a role, and nothing else has one

pub mark_role : (s : MentionKind) → is_mark s ≡ true → (r : Role) × (role_of s ≡ Some r)
mark_role through e = (role.Through, refl)
mark_role past e = (role.Past, refl)
mark_role define e = (role.Define, refl)
mark_role element e = (role.Element, refl)
mark_role dotted e = (role.Dotted, refl)
mark_role (value f) e = (role.Value, refl)
mark_role other e = absurd cc

pub no_role : (s : MentionKind) → is_mark s ≡ false → role_of s ≡ None
no_role begun e = refl
no_role passed e = refl
no_role (item f) e = refl
no_role other e = absurd cc

-- one mark more, if it is one and is at the path
marks_with : (p : List Part) (m : Mention) (ms : List Mention) (a b : Bool) → is_at p m ≡ a → is_mark m.kind ≡ b
    → mark_count p (m ∷ ms) ≡ cond b (cond a 1 0) 0 + mark_count p ms
marks_with p m ms a true at is =
    let r = mark_role m.kind is in counted p m ms r.0 r.1 ∙ ap {B = ℕ} (λ x. cond x 1 0 + mark_count p ms) at
marks_with p m ms a false at is = omega (arith, uncounted p m ms (no_role m.kind is))

pub mark_count-append : (p : List Part) (xs ys : List Mention)
    → mark_count p (xs ++ ys) ≡ mark_count p xs + mark_count p ys
mark_count-append p xs ys =
    ap (count_by (λ (m : Mark). same_path m.path p)) (filter_map-append mark_of xs ys)
    ∙ sum_by-append (λ (m : Mark). cond (same_path m.path p) 1 0) (marks xs) (marks ys)

-- ---- how many key parts name the path

abbrev is_numbered_mark : Numbered → Bool
is_numbered_mark n = is_mark n.mention.kind

counted_first : (n : Numbered) (ns : List Numbered)
    → count_by is_numbered_mark (n ∷ ns) ≡ cond (is_numbered_mark n) 1 0 + count_by is_numbered_mark ns
counted_first n ns =
    sum_by-append (λ (x : Numbered). cond (is_numbered_mark x) 1 0) (n ∷ []) ns
    ∙ ap (λ (k : ℕ). k + count_by is_numbered_mark ns) (omega arith)

marks_numbered : (p : List Part) (ns : List Numbered)
    → count_by is_numbered_mark (numbered_at p ns) ≡ mark_count p (map mention_of ns)
marks_numbered p [] = refl
marks_numbered p (n ∷ ns) = by (is_at p n.mention) refl (is_mark n.mention.kind) refl (marks_numbered p ns)
  where
    by : (a : Bool) → is_at p n.mention ≡ a → (b : Bool) → is_mark n.mention.kind ≡ b
        → count_by is_numbered_mark (numbered_at p ns) ≡ mark_count p (map mention_of ns)
        → count_by is_numbered_mark (numbered_at p (n ∷ ns)) ≡ mark_count p (map mention_of (n ∷ ns))
    by false at true is ih =
        rw at (ih ∙ sym (marks_with p n.mention (map mention_of ns) false true at is ∙ omega arith))
    by false at false is ih =
        rw at (ih ∙ sym (marks_with p n.mention (map mention_of ns) false false at is ∙ omega arith))
    by true at true is ih =
        rw at (counted_first n (numbered_at p ns)
        ∙ ap {B = ℕ} (λ x. cond x 1 0 + count_by is_numbered_mark (numbered_at p ns)) is ∙ ap (λ k. 1 + k) ih
        ∙ sym (marks_with p n.mention (map mention_of ns) true true at is))
    by true at false is ih =
        rw at (counted_first n (numbered_at p ns)
        ∙ ap {B = ℕ} (λ x. cond x 1 0 + count_by is_numbered_mark (numbered_at p ns)) is ∙ ap (λ k. 0 + k) ih
        ∙ sym (marks_with p n.mention (map mention_of ns) true false at is))

-- what is known of the node of a path counts its marks
pub marks_stated : (p : List Part) (s : Document) → (node_at (numbered_in s) p).marks ≡ mark_count p (mentions_in s)
marks_stated p s = marks_numbered p (numbered_in s) ∙ ap (mark_count p) (mentions-numbered_in s)

-- ---- numbered by counting marks

abbrev IsCounted : ℕ → List Numbered → Type 0
IsCounted k [] = ⊤
IsCounted k (n ∷ ns) = (n.before.keys ≡ k) × IsCounted (k + one_if (is_mark n.mention.kind)) ns

counted_from : (k l : ℕ) (ns : List Numbered) → k ≡ l → IsCounted k ns → IsCounted l ns
counted_from k l ns e h = subst (λ (n : ℕ). IsCounted n ns) e h

marked_first : (m : Mention) (ms : List Mention) → marked (m ∷ ms) ≡ one_if (is_mark m.kind) + marked ms
marked_first m ms = one_mark m.kind m.path (marks ms)

counted_join : (k : ℕ) (xs ys : List Numbered) → IsCounted k xs → IsCounted (k + marked (map mention_of xs)) ys
    → IsCounted k (xs ++ ys)
counted_join k [] ys h g = counted_from (k + 0) k ys (omega arith) g
counted_join k (x ∷ xs) ys h g =
    let l : ℕ = k + one_if (is_mark x.mention.kind) in (
      h.0,
      counted_join l xs ys h.1
          (counted_from (k + marked (map mention_of (x ∷ xs))) (l + marked (map mention_of xs)) ys
          (omega (arith, marked_first x.mention (map mention_of xs))) g),
    )

counted_mentions : (c : Count) (ms : List Mention) → IsCounted c.keys (numbered_mentions c ms)
counted_mentions c [] = tt
counted_mentions c (m ∷ ms) = (refl, counted_mentions (count_with_mention c m) ms)

counted_statements : (c : Count) (r : Reading) (ss : List Statement) → IsCounted c.keys (numbered_from c r ss)
counted_statements c r [] = tt
counted_statements c r (s ∷ ss) =
    let ms : List Mention = statement_mentions r s in
    counted_join c.keys (numbered_mentions c ms) (numbered_from (next_count c ms) (next_reading r s) ss)
    (counted_mentions c ms)
    (counted_from (next_count c ms).keys (c.keys + marked (map mention_of (numbered_mentions c ms)))
    (numbered_from (next_count c ms) (next_reading r s) ss)
    (count_after-keys c ms ∙ ap (λ (l : List Mention). c.keys + marked l) (sym (mentions-numbered_mentions c ms)))
    (counted_statements (next_count c ms) (next_reading r s) ss))

-- ---- the first key part of a path

abbrev first_from : List Part → List Numbered → Option ℕ
first_from p ns = first_number is_mark key_number (numbered_at p ns)

first_past : (p : List Part) (n : Numbered) (ns : List Numbered) → is_at p n.mention ≡ false
    → first_from p (n ∷ ns) ≡ first_from p ns
first_past p n ns e = rw e refl

first_at : (p : List Part) (n : Numbered) (ns : List Numbered) → is_at p n.mention ≡ true
    → first_from p (n ∷ ns) ≡ cond (is_mark n.mention.kind) (Some n.before.keys) (first_from p ns)
first_at p n ns e = rw e refl

first_mark : (p : List Part) (k : ℕ) (ns : List Numbered) (earlier : List Mention) (m : Mention) (later : List Mention)
    → IsCounted k ns → map mention_of ns ≡ earlier ++ m ∷ later
    → is_at p m ≡ true → is_mark m.kind ≡ true → mark_count p earlier ≡ 0 → first_from p ns ≡ Some (k + marked earlier)
first_mark p k [] [] m later counted e here is none = absurd cc
first_mark p k [] (x ∷ earlier) m later counted e here is none = absurd cc
first_mark p k (n ∷ ns) [] m later counted e here is none =
    let one : n.mention ≡ m = cc in
    let at : is_at p n.mention ≡ true = ap (is_at p) one ∙ here in
    let marks_it : is_mark n.mention.kind ≡ true = ap (λ (x : Mention). is_mark x.kind) one ∙ is in
    first_at p n ns at ∙ ap (λ b. cond b (Some n.before.keys) (first_from p ns)) marks_it
    ∙ ap Some (counted.0 ∙ omega arith)
first_mark p k (n ∷ ns) (x ∷ earlier) m later counted e here is none =
    let one : n.mention ≡ x = cc in
    let more : map mention_of ns ≡ earlier ++ m ∷ later = cc in
    by (is_at p x) refl (is_mark x.kind) refl one (λ l h none'. first_mark p l ns earlier m later h more here is none')
    counted none
  where
    by : (a : Bool) → is_at p x ≡ a → (b : Bool) → is_mark x.kind ≡ b → n.mention ≡ x
        → ((l : ℕ) → IsCounted l ns → mark_count p earlier ≡ 0 → first_from p ns ≡ Some (l + marked earlier))
        → IsCounted k (n ∷ ns) → mark_count p (x ∷ earlier) ≡ 0
        → first_from p (n ∷ ns) ≡ Some (k + marked (x ∷ earlier))
    by true at true is one ih h none = absurd (omega (arith, none, marks_with p x earlier true true at is))
    by true at false is one ih h none =
        let l : ℕ = k + one_if (is_mark n.mention.kind) in
        let mention_kind : is_mark n.mention.kind ≡ false = ap (λ (y : Mention). is_mark y.kind) one ∙ is in
        first_at p n ns (ap (is_at p) one ∙ at) ∙ ap (λ b. cond b (Some n.before.keys) (first_from p ns)) mention_kind
        ∙ ih l h.1 (omega (arith, none, marks_with p x earlier true false at is))
        ∙ ap Some (omega (arith, marked_first x earlier, ap (λ (y : Mention). one_if (is_mark y.kind)) one))
    by false at b is one ih h none =
        let l : ℕ = k + one_if (is_mark n.mention.kind) in
        first_past p n ns (ap (is_at p) one ∙ at)
        ∙ ih l h.1 (by_count b is)
        ∙ ap Some (omega (arith, marked_first x earlier, ap (λ (y : Mention). one_if (is_mark y.kind)) one))
      where
        by_count : (b : Bool) → is_mark x.kind ≡ b → mark_count p earlier ≡ 0
        by_count true is = omega (arith, none, marks_with p x earlier false true at is)
        by_count false is = omega (arith, none, marks_with p x earlier false false at is)

-- ---- where one key part names a path

none_earlier : (p : List Part) (earlier : List Mention) (m : Mention) (later : List Mention) → is_at p m ≡ true
    → is_mark m.kind ≡ true → mark_count p (earlier ++ m ∷ later) ≡ 1 → mark_count p earlier ≡ 0
none_earlier p earlier m later at is one =
    omega (arith, one, mark_count-append p earlier (m ∷ later), marks_with p m later true true at is)

get_here : {A : Type 0} (prefix : List A) (x : A) (after : List A)
    → slice_get (prefix ++ x ∷ after) (length prefix) ≡ Some x
get_here [] x after = refl
get_here (y ∷ prefix) x after = get_here prefix x after

-- The key part is the one that is known of the path's node, and it is what is replaced.
pub record IsKeyRenamed (p : List Part) (t : List ℕ) (s : Document) (c : Changed Document) : Type 0 where
  pub number : ℕ
  pub own : KeyPart
  pub here : slice_get (syntax.parts s) number ≡ Some own
  pub span : key_span_of (syntax.parts s) (node_at (numbered_in s) p) ≡ Some own.span
  pub place : place_of c ≡ record { start = own.span.start; end = own.span.end; new = encoded_key t }

same_place : (a a' b b' : ℕ) (t t' : List ℕ) → a ≡ a' → b ≡ b' → t ≡ t'
    → (let x : Place = record { start = a; end = b; new = t } in
    let y : Place = record { start = a'; end = b'; new = t' } in x ≡ y)
same_place a a' b b' t t' e f g = cc

the_of : {A : Type 0} (P : Changed A → Type 0) (o : Option (Changed A)) (c : Changed A) → o ≡ Some c → EachOf P o → P c
the_of P o c e h = subst (λ o. EachOf P o) e h

-- `rename` replaces the one key part that names the path, from its first byte to its last.
pub rename_placed : (p : List Part) (t : List ℕ) (s : Document) (c : Changed Document)
    → mark_count p (mentions_in s) ≡ 1 → change s (rename p t) ≡ Some c → IsKeyRenamed p t s c
rename_placed p t s c one e =
    let h : IsRenamedIn 0 p (key_part t).text (mentions_in s) (syntax.parts s) c =
    the_of (IsRenamedIn 0 p (key_part t).text (mentions_in s) (syntax.parts s)) (change s (rename p t)) c e
    (rename_place p t s) in
    let at : is_at p h.mention ≡ true = ap (λ (q : List Part). same_path q p) h.place ∙ same_path-refl p in
    let none : mark_count p h.earlier ≡ 0 =
    none_earlier p h.earlier h.mention h.later at h.names (ap (mark_count p) (sym h.mentioned) ∙ one) in
    let first : first_from p (numbered_in s) ≡ Some (0 + marked h.earlier) =
    first_mark p 0 (numbered_in s) h.earlier h.mention h.later (counted_statements no_count start (statements_in s))
    (mentions-numbered_in s ∙ h.mentioned) at h.names none in
    let number : 0 + marked h.earlier ≡ length h.prefix = omega (arith, h.count) in
    let here : slice_get (syntax.parts s) (length h.prefix) ≡ Some h.own =
    ap (λ l. slice_get l (length h.prefix)) h.here ∙ get_here h.prefix h.own h.after in
    let begins : length c.before ≡ h.own.span.start = omega (arith, h.start) in
    record {
      number = length h.prefix;
      own = h.own;
      here = here;
      span = ap (option_and_then (key_span (syntax.parts s))) (first ∙ ap Some number)
          ∙ ap (option_map (λ (k : KeyPart). k.span)) here;
      place = same_place (length c.before) h.own.span.start (length c.before + length c.old) h.own.span.end c.new
          (encoded_key t) begins (omega (arith, begins, h.end)) h.fresh;
    }

-- The stated place is that of the key part that is replaced.
pub rename_place_is : (p : List Part) (t : List ℕ) (s : Document) (c : Changed Document) (h : IsKeyRenamed p t s c)
    → change s (rename p t) ≡ Some c
    → place s (rename p t) ≡ record { start = h.own.span.start; end = h.own.span.end; new = encoded_key t }
rename_place_is p t s c h e = ap (λ (o : Option (Changed Document)). place_of (changed_or_same s o)) e ∙ h.place
