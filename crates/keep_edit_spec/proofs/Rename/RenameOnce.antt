-- Where one key part names a path, one mention speaks of it, apart from those of an element by the way.
--
-- Theorems: `once_counted`: where the rules hold and one key part at most names the path, one mention at most is solid
-- there; `some_counted`: where a key part names it, one mention is; `once_after`: where one is, none after it is.
use Rattle.std.proofs.Common.{◌≡◌, ℕ, ◌+◌, ◌≤◌, Bool, true, false, cond, List, [], ◌∷◌, ◌++◌, map, refl, sym, ap, subst}
use Rattle.std.proofs.Common.{◌∙◌, arith, Option, Some, None, inl, inr}
use Rattle.std.specs.List.{count_by, cons_option}
use Rattle.std.proofs.lemmas.List.Sums.{sum_by-append}
use Rattle.keep_types.specs.declared.role.Role.{Role}
use Rattle.keep_path.specs.Path.{Part, same_path}
use Rattle.keep_meaning.specs.Rules.{Mark}
use Rattle.keep_meaning.specs.Marks.{MentionKind, through, past, define, element, dotted, value, item, Mention, below}
use Rattle.keep_meaning.specs.Marks.{role_of, with_path, marks}
use Rattle.keep_meaning.specs.Nodes.{mark_count}
use Rattle.keep_edit_spec.proofs.Common.Runs.{AllOf, SomeOf, Pairs, pairs_split, all_map, meet, Allowed, Rules}
use Rattle.keep_edit_spec.proofs.Common.Runs.{kinds_allow, exclusive, solid, same_path-sound, same_path-refl}
use Rattle.keep_edit_spec.proofs.Common.SetLaw.{IsSolidAt, exclusive-solid, solid-exclusive}

abbrev pub NotBoth : List Part → Mention → Mention → Type 0
NotBoth p a b = IsSolidAt p a → IsSolidAt p b → ⊥

abbrev pub Once : List Part → List Mention → Type 0
Once p = Pairs (NotBoth p)

-- not in what is beside it
pub once_after : (p : List Part) (xs ys : List Mention) → Once p (xs ++ ys) → SomeOf (IsSolidAt p) xs
    → SomeOf (IsSolidAt p) ys → ⊥
once_after p xs ys h s u =
    let (x, sx, all) = meet (IsSolidAt p) (λ x. AllOf (NotBoth p x) ys) xs s (pairs_split (NotBoth p) xs ys h).across in
    let (y, sy, not) = meet (IsSolidAt p) (NotBoth p x) ys u all in
    not sx sy

pub once_left : (p : List Part) (xs ys : List Mention) → Once p (xs ++ ys) → Once p xs
once_left p xs ys h = (pairs_split (NotBoth p) xs ys h).left

pub once_right : (p : List Part) (xs ys : List Mention) → Once p (xs ++ ys) → Once p ys
once_right p xs ys h = (pairs_split (NotBoth p) xs ys h).right

-- seen from a prefix of the path
pub once_below : (s p : List Part) (ms : List Mention) → Once (s ++ p) (map (below s) ms) → Once p ms
once_below s p [] h = tt
once_below s p (m ∷ ms) h = (one ms h.0, once_below s p ms h.1)
  where
    out : (x : Mention) → IsSolidAt p x → IsSolidAt (s ++ p) (below s x)
    out x h = record { path = ap (λ q. s ++ q) h.path; kind = h.kind }

    one : (xs : List Mention) → AllOf (NotBoth (s ++ p) (below s m)) (map (below s) xs) → AllOf (NotBoth p m) xs
    one [] g = tt
    one (x ∷ xs) g = ((λ a b. g.0 (out m a) (out x b)), one xs g.1)

-- ---- from the number of marks

role_solid : (s : MentionKind) (r : Role) → role_of s ≡ Some r → solid s ≡ true
role_solid through r e = refl
role_solid past r e = refl
role_solid define r e = refl
role_solid element r e = refl
role_solid dotted r e = refl
role_solid (value f) r e = refl
role_solid other r e = absurd cc

silent_alone : (s : MentionKind) → role_of s ≡ None → solid s ≡ true → exclusive s ≡ true
silent_alone (value f) e h = refl
silent_alone (item f) e h = refl
silent_alone other e h = absurd cc

count_cons : (t : Mark → Bool) (m : Mark) (l : List Mark) → count_by t (m ∷ l) ≡ cond (t m) 1 0 + count_by t l
count_cons t m l = omega (arith, sum_by-append (λ x. cond (t x) 1 0) (m ∷ []) l)

pub counted : (p : List Part) (m : Mention) (ms : List Mention) (r : Role) → role_of m.kind ≡ Some r
    → mark_count p (m ∷ ms) ≡ cond (same_path m.path p) 1 0 + mark_count p ms
counted p m ms r e =
    ap (λ (o : Option Role). count_by (λ x. same_path x.path p) (cons_option (with_path m.path o) (marks ms))) e
    ∙ count_cons (λ x. same_path x.path p) (record { role = r; path = m.path }) (marks ms)

pub uncounted : (p : List Part) (m : Mention) (ms : List Mention) → role_of m.kind ≡ None
    → mark_count p (m ∷ ms) ≡ mark_count p ms
uncounted p m ms e =
    ap (λ (o : Option Role). count_by (λ x. same_path x.path p) (cons_option (with_path m.path o) (marks ms))) e

at_path : (p : List Part) (m : Mention) → IsSolidAt p m → same_path m.path p ≡ true
at_path p m h = subst (λ (q : List Part). same_path m.path q ≡ true) h.path (same_path-refl m.path)

abbrev IsAloneIfAt : List Part → Mention → Type 0
IsAloneIfAt p x = IsSolidAt p x → exclusive x.kind ≡ true

no_marks : (p : List Part) (ms : List Mention) → mark_count p ms ≤ 0 → AllOf (IsAloneIfAt p) ms
no_marks p [] h = tt
no_marks p (m ∷ ms) h = by (λ g. no_marks p ms g) (role_of m.kind) refl (same_path m.path p) refl
  where
    by : (mark_count p ms ≤ 0 → AllOf (IsAloneIfAt p) ms) → (o : Option Role) → role_of m.kind ≡ o → (b : Bool)
        → same_path m.path p ≡ b → AllOf (IsAloneIfAt p) (m ∷ ms)
    by ih None e b k = ((λ s. silent_alone m.kind e s.kind), ih (omega (arith, uncounted p m ms e)))
    by ih (Some r) e true k = absurd (omega (arith, counted p m ms r e, ap {B = ℕ} (λ c. cond c 1 0) k))
    by ih (Some r) e false k = (
      (λ s. absurd (let x : same_path m.path p ≡ true = at_path p m s in cc)),
      ih (omega (arith, counted p m ms r e, ap {B = ℕ} (λ c. cond c 1 0) k)),
    )

pub all_two : (P Q R : Mention → Type 0) → ((x : Mention) → P x → Q x → R x) → (xs : List Mention) → AllOf P xs
    → AllOf Q xs → AllOf R xs
all_two P Q R f [] h g = tt
all_two P Q R f (x ∷ xs) h g = (f x h.0 g.0, all_two P Q R f xs h.1 g.1)

alone_clash : (p : List Part) (m x : Mention) → exclusive m.kind ≡ true → Allowed m x → NotBoth p m x
alone_clash p m x e allowed a b =
    let yes : kinds_allow m.kind x.kind ≡ true = allowed (a.path ∙ sym b.path) in
    let no : kinds_allow m.kind x.kind ≡ false = exclusive-solid m.kind x.kind e b.kind in
    absurd cc

clash_alone : (p : List Part) (m x : Mention) → IsAloneIfAt p x → Allowed m x → NotBoth p m x
clash_alone p m x e allowed a b =
    let yes : kinds_allow m.kind x.kind ≡ true = allowed (a.path ∙ sym b.path) in
    let no : kinds_allow m.kind x.kind ≡ false = solid-exclusive m.kind x.kind a.kind (e b) in
    absurd cc

pub once_counted : (p : List Part) (ms : List Mention) → Rules ms → mark_count p ms ≤ 1 → Once p ms
once_counted p [] rules h = tt
once_counted p (m ∷ ms) rules h = by (λ g. once_counted p ms rules.1 g) (role_of m.kind) refl (same_path m.path p) refl
  where
    by : (mark_count p ms ≤ 1 → Once p ms) → (o : Option Role) → role_of m.kind ≡ o → (b : Bool)
        → same_path m.path p ≡ b → Once p (m ∷ ms)
    by ih None e b k = (
      all_map (Allowed m) (NotBoth p m) (λ x allowed a. alone_clash p m x (silent_alone m.kind e a.kind) allowed a) ms
          rules.0,
      ih (omega (arith, uncounted p m ms e)),
    )
    by ih (Some r) e true k = (
      all_two (Allowed m) (IsAloneIfAt p) (NotBoth p m) (λ x allowed alone. clash_alone p m x alone allowed) ms rules.0
          (no_marks p ms (omega (arith, counted p m ms r e, ap {B = ℕ} (λ c. cond c 1 0) k))),
      ih (omega (arith, counted p m ms r e)),
    )
    by ih (Some r) e false k = (
      all_map (Allowed m) (NotBoth p m)
          (λ x allowed a b. absurd (let y : same_path m.path p ≡ true = at_path p m a in cc)) ms rules.0,
      ih (omega (arith, counted p m ms r e)),
    )

pub some_counted : (p : List Part) (ms : List Mention) → 1 ≤ mark_count p ms → SomeOf (IsSolidAt p) ms
some_counted p [] h = absurd (omega arith)
some_counted p (m ∷ ms) h = by (λ g. some_counted p ms g) (role_of m.kind) refl (same_path m.path p) refl
  where
    by : (1 ≤ mark_count p ms → SomeOf (IsSolidAt p) ms) → (o : Option Role) → role_of m.kind ≡ o → (b : Bool)
        → same_path m.path p ≡ b → SomeOf (IsSolidAt p) (m ∷ ms)
    by ih None e b k = inr (ih (omega (arith, uncounted p m ms e)))
    by ih (Some r) e true k = inl (record { path = same_path-sound m.path p k; kind = role_solid m.kind r e })
    by ih (Some r) e false k = inr (ih (omega (arith, counted p m ms r e, ap {B = ℕ} (λ c. cond c 1 0) k)))
