-- What the marks at a key's path let a header do there: by what is said of the path.
--
-- The marks at one path let one another follow, so one of them decides for all: if headers may go through one, they may
-- go through each, and if an element may come after one, it may after each (`all_in`, whose premise is computed from
-- the table of pairs of roles). What the marks refuse is what their roles refuse (`refused_roles`); so one mention of
-- the path decides by the role that it has (`role_any`), as `define_continues` or `value_refuses` say. Where headers
-- only go through the path, a table may be defined there (`through_defines`).
--
-- Theorems: `refused_roles`; and for each kind of mention what a header meets at its path, as `define_continues`,
-- `define_twice`, `define_unlisted`.
use Rattle.std.proofs.Common.{◌≡◌, ℕ, zero, suc, Bool, true, false, cond, not, ◌&&◌, ◌||◌, List, [], ◌∷◌, map, refl}
use Rattle.std.proofs.Common.{sym, ap, subst, ◌∙◌, arith, Option, Some, None}
use Rattle.std.specs.Prelude.{filter}
use Rattle.std.specs.List.{list_any, list_all, filter_map, cons_option}
use Rattle.keep_types.specs.declared.role.Role.{Role}
use Rattle.keep_types.specs.declared.role.Role.TheVariants.{Through, Past, Define, Element, Dotted, Value}
use Rattle.keep_meaning.specs.Marks.{MentionKind, through, past, define, element as kinds_element, dotted, value, begun}
use Rattle.keep_meaning.specs.Marks.{passed, item, Mention, role_of, with_path, elements_of, marks}
use Rattle.keep_meaning.specs.Counts.{is_value}
use Rattle.keep_meaning.specs.Nodes.{is_at, kinds_at, has, is_through, is_define, is_element, is_dotted}
use Rattle.keep_meaning.specs.Rules.{allows, Allows, ObeysRules}
use Rattle.keep_path.specs.Path.{Part}
use Rattle.keep_edit_spec.specs.Headers.{is_refused}
use Rattle.keep_edit_spec.proofs.Common.LineLaws.{EndsInKey}
use Rattle.keep_edit_spec.proofs.Common.FromMarks.{EndsInIndex, IsFormed, Formed, ends_disjoint}
use Rattle.keep_edit_spec.specs.Refusals.{tables_in}
use Rattle.keep_edit_spec.proofs.Common.Runs.{AllOf, Pairs, same_path-sound}
use Rattle.keep_edit_spec.proofs.Common.Marks.{pairs_from_index}
use Rattle.keep_edit_spec.proofs.Common.Doubles.{some_has}
use Rattle.keep_edit_spec.proofs.Insert.LinesNamed.{counted}
use Rattle.keep_edit_spec.proofs.Append.HeaderConflict.{LetsPass}

-- ---- roles that let one another follow

both : (a b : Bool) → (a && b) ≡ true → (a ≡ true) × (b ≡ true)
both true b h = (refl, h)
both false b h = absurd cc

abbrev same : Bool → Bool → Bool
same true b = b
same false b = not b

same_is : (a b : Bool) → same a b ≡ true → a ≡ b
same_is true true h = refl
same_is true false h = cc
same_is false true h = cc
same_is false false h = refl

-- a test that is decided role by role
abbrev each_role : (Role → Bool) → Bool
each_role t = t Through && (t Past && (t Define && (t Element && (t Dotted && t Value))))

parts_of : (t : Role → Bool) → each_role t ≡ true → (t Through ≡ true) × (t Past ≡ true) × (t Define ≡ true)
    × (t Element ≡ true) × (t Dotted ≡ true) × (t Value ≡ true)
parts_of t h =
    let p = both (t Through) (t Past && (t Define && (t Element && (t Dotted && t Value)))) h in
    let q = both (t Past) (t Define && (t Element && (t Dotted && t Value))) p.1 in
    let r = both (t Define) (t Element && (t Dotted && t Value)) q.1 in
    let s = both (t Element) (t Dotted && t Value) r.1 in
    let u = both (t Dotted) (t Value) s.1 in
    (p.0, q.0, r.0, s.0, u.0, u.1)

of_each : (t : Role → Bool) → each_role t ≡ true → (r : Role) → t r ≡ true
of_each t h Through = (parts_of t h).0
of_each t h Past = (parts_of t h).1
of_each t h Define = (parts_of t h).2
of_each t h Element = (parts_of t h).3
of_each t h Dotted = (parts_of t h).4
of_each t h Value = (parts_of t h).5

-- a test has one answer for two roles of which one lets the other follow; for "may `Through` follow?" and "may
-- `Element` follow?" this is computed from the table of all pairs
abbrev alike : (Role → Bool) → Role → Role → Bool
alike c x y = not (allows x y) || same (c x) (c y)

kept : (c : Role → Bool) → each_role (λ (x : Role). each_role (alike c x)) ≡ true
    → (x y : Role) → allows x y ≡ true → c x ≡ c y
kept c h x y lets =
    let row : each_role (alike c x) ≡ true = of_each (λ (x : Role). each_role (alike c x)) h x in
    let cell : (not (allows x y) || same (c x) (c y)) ≡ true = of_each (alike c x) row y in
    same_is (c x) (c y) (sym (ap (λ (b : Bool). not b || same (c x) (c y)) lets) ∙ cell)

-- the roles of what is said of a path
abbrev pub roles_of : List MentionKind → List Role
roles_of mention_kind = filter_map role_of mention_kind

abbrev pub Lets : Role → Role → Type 0
Lets a b = allows a b ≡ true

module _ (c : Role → Bool) (table : each_role (λ (x : Role). each_role (alike c x)) ≡ true) where
  all_after : (x : Role) (rs : List Role) → c x ≡ true → AllOf (Lets x) rs → list_all c rs ≡ true
  all_after x [] h lets = refl
  all_after x (r ∷ rs) h lets =
      ap (λ (b : Bool). b && list_all c rs) (sym (kept c table x r lets.0) ∙ h) ∙ all_after x rs h lets.1

  one_before : (x : Role) (rs : List Role) → AllOf (Lets x) rs → list_any c rs ≡ true → c x ≡ true
  one_before x [] lets some = absurd cc
  one_before x (r ∷ rs) lets some = by (c r) refl (one_before x rs lets.1) some
    where
      by : (b : Bool) → c r ≡ b → (list_any c rs ≡ true → c x ≡ true) → (b || list_any c rs) ≡ true → c x ≡ true
      by true e more some = kept c table x r lets.0 ∙ e
      by false e more some = more some

  -- a class that one of them is in, all are in
  all_in : (rs : List Role) → Pairs Lets rs → list_any c rs ≡ true → list_all c rs ≡ true
  all_in [] lets some = refl
  all_in (r ∷ rs) lets some = by (c r) refl (all_in rs lets.1) some
    where
      by : (b : Bool) → c r ≡ b → (list_any c rs ≡ true → list_all c rs ≡ true) → (b || list_any c rs) ≡ true
          → (c r && list_all c rs) ≡ true
      by true e more some = ap (λ (b : Bool). b && list_all c rs) e ∙ all_after r rs e lets.0
      by false e more some =
          ap (λ (b : Bool). b && list_all c rs) (one_before r rs lets.0 some) ∙ more some

-- ---- the marks at a path

no_other : (c : Role → Bool) (rs : List Role) → list_all c rs ≡ true → list_any (λ (r : Role). not (c r)) rs ≡ false
no_other c [] h = refl
no_other c (r ∷ rs) h = by (c r) refl h (no_other c rs)
  where
    by : (b : Bool) → c r ≡ b → (b && list_all c rs) ≡ true
        → (list_all c rs ≡ true → list_any (λ (r : Role). not (c r)) rs ≡ false)
        → (not (c r) || list_any (λ (r : Role). not (c r)) rs) ≡ false
    by true e h more = ap (λ (b : Bool). not b || list_any (λ (r : Role). not (c r)) rs) e ∙ more h
    by false e h more = absurd cc

-- what they refuse is what their roles refuse
pub refused_roles : (role : Role) (path : List Part) (ms : List Mention)
    → is_refused (marks ms) role path ≡ list_any (λ (r : Role). not (allows r role)) (roles_of (kinds_at path ms))
refused_roles role path [] = refl
refused_roles role path (m ∷ ms) = by (role_of m.kind) refl (is_at path m) refl (refused_roles role path ms)
  where
    by : (o : Option Role) → role_of m.kind ≡ o → (b : Bool) → is_at path m ≡ b
        → is_refused (marks ms) role path ≡ list_any (λ (r : Role). not (allows r role)) (roles_of (kinds_at path ms))
        → is_refused (marks (m ∷ ms)) role path
        ≡ list_any (λ (r : Role). not (allows r role)) (roles_of (kinds_at path (m ∷ ms)))
    by None o true b more = rw (b, o) more
    by None o false b more = rw (b, o) more
    by (Some r) o true b more = rw (b, o, b) (ap (λ (x : Bool). not (allows r role) || x) more)
    by (Some r) o false b more = rw (b, o, b) more

-- their roles let one another follow
lets_here : (r : Role) (path : List Part) (ms : List Mention)
    → AllOf (Allows (record { role = r; path = path })) (marks ms) → AllOf (Lets r) (roles_of (kinds_at path ms))
lets_here r path [] h = tt
lets_here r path (m ∷ ms) h = by (role_of m.kind) refl (is_at path m) refl h (lets_here r path ms)
  where
    by : (o : Option Role) → role_of m.kind ≡ o → (b : Bool) → is_at path m ≡ b
        → AllOf (Allows (record { role = r; path = path })) (cons_option (with_path m.path o) (marks ms))
        → (AllOf (Allows (record { role = r; path = path })) (marks ms) → AllOf (Lets r) (roles_of (kinds_at path ms)))
        → AllOf (Lets r) (roles_of (kinds_at path (m ∷ ms)))
    by None o true b h more = rw (b, o) (more h)
    by None o false b h more = rw b (more h)
    by (Some t) o true b h more = rw (b, o) (h.0 (sym (same_path-sound m.path path b)), more h.1)
    by (Some t) o false b h more = rw b (more h.1)

pub roles_let : (path : List Part) (ms : List Mention) → Pairs Allows (marks ms)
    → Pairs Lets (roles_of (kinds_at path ms))
roles_let path [] h = tt
roles_let path (m ∷ ms) h = by (role_of m.kind) refl (is_at path m) refl h (roles_let path ms)
  where
    by : (o : Option Role) → role_of m.kind ≡ o → (b : Bool) → is_at path m ≡ b
        → Pairs Allows (cons_option (with_path m.path o) (marks ms))
        → (Pairs Allows (marks ms) → Pairs Lets (roles_of (kinds_at path ms)))
        → Pairs Lets (roles_of (kinds_at path (m ∷ ms)))
    by None o true b h more = rw (b, o) (more h)
    by None o false b h more = rw b (more h)
    by (Some t) o true b h more =
        rw (b, o) (
          subst (λ (p : List Part). AllOf (Lets t) (roles_of (kinds_at p ms))) (same_path-sound m.path path b)
              (lets_here t m.path ms h.0),
          more h.1,
        )
    by (Some t) o false b h more = rw b (more h.1)

-- ---- by what is said of the path

-- where a kind of mention that has one role is said, that role is one of them
role_any : (is : MentionKind → Bool) (role : Role) → ((a : MentionKind) → is a ≡ true → role_of a ≡ Some role)
    → (c : Role → Bool) → c role ≡ true
    → (kinds : List MentionKind) → list_any is kinds ≡ true → list_any c (roles_of kinds) ≡ true
role_any is role one c at [] h = absurd cc
role_any is role one c at (a ∷ kinds) h = by (is a) refl h (role_any is role one c at kinds) (role_of a) refl
  where
    or_true : (b : Bool) → (b || true) ≡ true
    or_true true = refl
    or_true false = refl

    with_first : (o : Option Role) → role_of a ≡ o
        → list_any c (cons_option (role_of a) (roles_of kinds)) ≡ list_any c (cons_option o (roles_of kinds))
    with_first o is_o = ap (λ (o : Option Role). list_any c (cons_option o (roles_of kinds))) is_o

    by : (b : Bool) → is a ≡ b → (b || list_any is kinds) ≡ true
        → (list_any is kinds ≡ true → list_any c (roles_of kinds) ≡ true)
        → (o : Option Role) → role_of a ≡ o → list_any c (cons_option (role_of a) (roles_of kinds)) ≡ true
    by true e h more o is_o =
        with_first (Some role) (one a e) ∙ ap (λ (b : Bool). b || list_any c (roles_of kinds)) at
    by false e h more None is_o = with_first None is_o ∙ more h
    by false e h more (Some r) is_o =
        with_first (Some r) is_o ∙ ap (λ (b : Bool). c r || b) (more h) ∙ or_true (c r)

through_role : (a : MentionKind) → is_through a ≡ true → role_of a ≡ Some Through
through_role through h = refl
through_role a h = cc

define_role : (a : MentionKind) → is_define a ≡ true → role_of a ≡ Some Define
define_role define h = refl
define_role a h = cc

element_role : (a : MentionKind) → is_element a ≡ true → role_of a ≡ Some Element
element_role kinds_element h = refl
element_role a h = cc

dotted_role : (a : MentionKind) → is_dotted a ≡ true → role_of a ≡ Some Dotted
dotted_role dotted h = refl
dotted_role a h = cc

-- a value, and no item
abbrev is_held : MentionKind → Bool
is_held (value f) = true
is_held _ = false

held_role : (a : MentionKind) → is_held a ≡ true → role_of a ≡ Some Value
held_role (value f) h = refl
held_role a h = cc

-- no item is at a key
value_held : (path : List Part) (ms : List Mention) → EndsInKey path → AllOf Formed ms
    → list_any is_value (kinds_at path ms) ≡ true → list_any is_held (kinds_at path ms) ≡ true
value_held path [] ends formed h = absurd cc
value_held path (m ∷ ms) ends formed h = by m.kind refl (is_at path m) refl h (value_held path ms ends formed.1)
  where
    by : (a : MentionKind) → m.kind ≡ a → (b : Bool) → is_at path m ≡ b
        → list_any is_value (map (λ (m : Mention). m.kind)
        (cond (is_at path m) (m ∷ filter (is_at path) ms) (filter (is_at path) ms))) ≡ true
        → (list_any is_value (kinds_at path ms) ≡ true → list_any is_held (kinds_at path ms) ≡ true)
        → list_any is_held (map (λ (m : Mention). m.kind)
        (cond (is_at path m) (m ∷ filter (is_at path) ms) (filter (is_at path) ms))) ≡ true
    by a e false b h more = rw b (more (rw b at h))
    by (value f) e true b h more = rw (b, e) refl
    by (item f) e true b h more =
        let index_end : EndsInIndex path =
        subst EndsInIndex (same_path-sound m.path path b)
        (let k : IsFormed m.kind m.path = formed.0 in subst (λ (a : MentionKind). IsFormed a m.path) e k) in
        absurd (ends_disjoint path path ends index_end refl)
    by a e true b h more = rw (b, e) (more (rw (b, e) at h))

-- headers go through it alone
through_alone : (mention_kind : List MentionKind) → list_any is_define mention_kind ≡ false
    → list_any is_dotted mention_kind ≡ false → list_all (λ (r : Role). allows r Through) (roles_of mention_kind) ≡ true
    → list_any (λ (r : Role). not (allows r Define)) (roles_of mention_kind) ≡ false
through_alone [] d t h = refl
through_alone (through ∷ mention_kind) d t h = through_alone mention_kind d t h
through_alone (begun ∷ mention_kind) d t h = through_alone mention_kind d t h
through_alone (passed ∷ mention_kind) d t h = through_alone mention_kind d t h
through_alone ((item f) ∷ mention_kind) d t h = through_alone mention_kind d t h
through_alone (a ∷ mention_kind) d t h = absurd cc

-- headers go past it at most
past_alone : (mention_kind : List MentionKind) → list_any is_value mention_kind ≡ false
    → list_any is_define mention_kind ≡ false → list_any is_dotted mention_kind ≡ false
    → list_any is_through mention_kind ≡ false
    → list_all (λ (r : Role). allows r Element) (roles_of mention_kind) ≡ true
past_alone [] v d t g = refl
past_alone (past ∷ mention_kind) v d t g = past_alone mention_kind v d t g
past_alone (kinds_element ∷ mention_kind) v d t g = past_alone mention_kind v d t g
past_alone (begun ∷ mention_kind) v d t g = past_alone mention_kind v d t g
past_alone (passed ∷ mention_kind) v d t g = past_alone mention_kind v d t g
past_alone (a ∷ mention_kind) v d t g = absurd cc

past_same : (rs : List Role)
    → list_any (λ (r : Role). not (allows r Past)) rs ≡ list_any (λ (r : Role). not (allows r Element)) rs
past_same [] = refl
past_same (r ∷ rs) =
    ap (λ (b : Bool). not b || list_any (λ (r : Role). not (allows r Past)) rs)
    (same_is (allows r Past) (allows r Element)
    (of_each (λ (r : Role). same (allows r Past) (allows r Element)) refl r))
    ∙ ap (λ (b : Bool). not (allows r Element) || b) (past_same rs)

-- ---- what a header meets at a path

module _ (path : List Part) (ms : List Mention) (lets : Pairs Allows (marks ms)) where
  refused_by : (role : Role) (is : MentionKind → Bool) (said : Role)
      → ((a : MentionKind) → is a ≡ true → role_of a ≡ Some said) → allows said role ≡ false
      → has is path ms ≡ true → is_refused (marks ms) role path ≡ true
  refused_by role is said one not_allowed h =
      refused_roles role path ms
      ∙ role_any is said one (λ (r : Role). not (allows r role)) (ap not not_allowed) (kinds_at path ms) h

  open_by : (is : MentionKind → Bool) (said : Role)
      → ((a : MentionKind) → is a ≡ true → role_of a ≡ Some said) → allows said Through ≡ true
      → has is path ms ≡ true → list_all (λ (r : Role). allows r Through) (roles_of (kinds_at path ms)) ≡ true
  open_by is said one allowed h =
      all_in (λ (r : Role). allows r Through) refl (roles_of (kinds_at path ms)) (roles_let path ms lets)
      (role_any is said one (λ (r : Role). allows r Through) allowed (kinds_at path ms) h)

  continues : (is : MentionKind → Bool) (said : Role)
      → ((a : MentionKind) → is a ≡ true → role_of a ≡ Some said) → allows said Through ≡ true
      → has is path ms ≡ true → is_refused (marks ms) Through path ≡ false
  continues is said one allowed h =
      refused_roles Through path ms
      ∙ no_other (λ (r : Role). allows r Through) (roles_of (kinds_at path ms)) (open_by is said one allowed h)

  pub through_continues : has is_through path ms ≡ true → is_refused (marks ms) Through path ≡ false
  through_continues h = continues is_through Through through_role refl h

  pub define_continues : has is_define path ms ≡ true → is_refused (marks ms) Through path ≡ false
  define_continues h = continues is_define Define define_role refl h

  pub dotted_continues : has is_dotted path ms ≡ true → is_refused (marks ms) Through path ≡ false
  dotted_continues h = continues is_dotted Dotted dotted_role refl h

  pub all_element : has is_element path ms ≡ true
      → list_all (λ (r : Role). allows r Element) (roles_of (kinds_at path ms)) ≡ true
  all_element h =
      all_in (λ (r : Role). allows r Element) refl (roles_of (kinds_at path ms)) (roles_let path ms lets)
      (role_any is_element Element element_role (λ (r : Role). allows r Element) refl (kinds_at path ms) h)

  pub element_again : has is_element path ms ≡ true → is_refused (marks ms) Element path ≡ false
  element_again h =
      refused_roles Element path ms
      ∙ no_other (λ (r : Role). allows r Element) (roles_of (kinds_at path ms)) (all_element h)

  pub element_past : has is_element path ms ≡ true → is_refused (marks ms) Past path ≡ false
  element_past h =
      refused_roles Past path ms ∙ past_same (roles_of (kinds_at path ms))
      ∙ no_other (λ (r : Role). allows r Element) (roles_of (kinds_at path ms)) (all_element h)

  pub element_undefines : has is_element path ms ≡ true → is_refused (marks ms) Define path ≡ true
  element_undefines h = refused_by Define is_element Element element_role refl h

  pub define_twice : has is_define path ms ≡ true → is_refused (marks ms) Define path ≡ true
  define_twice h = refused_by Define is_define Define define_role refl h

  pub define_unlisted : has is_define path ms ≡ true → is_refused (marks ms) Element path ≡ true
  define_unlisted h = refused_by Element is_define Define define_role refl h

  pub dotted_undefines : has is_dotted path ms ≡ true → is_refused (marks ms) Define path ≡ true
  dotted_undefines h = refused_by Define is_dotted Dotted dotted_role refl h

  pub dotted_unlisted : has is_dotted path ms ≡ true → is_refused (marks ms) Element path ≡ true
  dotted_unlisted h = refused_by Element is_dotted Dotted dotted_role refl h

  pub through_unlisted : has is_through path ms ≡ true → is_refused (marks ms) Element path ≡ true
  through_unlisted h = refused_by Element is_through Through through_role refl h

  pub through_defines : has is_through path ms ≡ true → has is_define path ms ≡ false → has is_dotted path ms ≡ false
      → is_refused (marks ms) Define path ≡ false
  through_defines h d t =
      refused_roles Define path ms
      ∙ through_alone (kinds_at path ms) d t (open_by is_through Through through_role refl h)

  pub past_listed : has is_value path ms ≡ false → has is_define path ms ≡ false → has is_dotted path ms ≡ false
      → has is_through path ms ≡ false → list_all (λ (r : Role). allows r Element) (roles_of (kinds_at path ms)) ≡ true
  past_listed v d t g = past_alone (kinds_at path ms) v d t g

  pub value_refuses : (role : Role) → EndsInKey path → AllOf Formed ms → has is_value path ms ≡ true
      → is_refused (marks ms) role path ≡ true
  value_refuses role ends formed h = refused_by role is_held Value held_role refl (value_held path ms ends formed h)

  -- no array of tables is where a value is
  pub value_unlisted : EndsInKey path → AllOf Formed ms → has is_value path ms ≡ true → has is_element path ms ≡ false
  value_unlisted ends formed h = by (has is_element path ms) refl
    where
      by : (b : Bool) → has is_element path ms ≡ b → b ≡ false
      by false e = refl
      by true e = let k : true ≡ false = sym (value_refuses Element ends formed h) ∙ element_again e in absurd cc

-- ---- of a document

pub marks_let : (ms : List Mention) → ObeysRules (marks ms) → Pairs Allows (marks ms)
marks_let ms obeys = pairs_from_index Allows (marks ms) obeys

none_mentioned_by : (path : List Part) (ms : List Mention) → list_any (is_at path) ms ≡ false → kinds_at path ms ≡ []
none_mentioned_by path [] h = refl
none_mentioned_by path (m ∷ ms) h = by (is_at path m) refl h (none_mentioned_by path ms)
  where
    by : (b : Bool) → is_at path m ≡ b → (is_at path m || list_any (is_at path) ms) ≡ false
        → (list_any (is_at path) ms ≡ false → kinds_at path ms ≡ []) → kinds_at path (m ∷ ms) ≡ []
    by true e h more = let k : true ≡ false = sym (ap (λ (x : Bool). x || list_any (is_at path) ms) e) ∙ h in absurd cc
    by false e h more = rw e (more (sym (ap (λ (x : Bool). x || list_any (is_at path) ms) e) ∙ h))

-- nothing is said of the path: nothing is refused there
pub none_refuses : (role : Role) (path : List Part) (ms : List Mention) → list_any (is_at path) ms ≡ false
    → is_refused (marks ms) role path ≡ false
none_refuses role path ms h =
    refused_roles role path ms
    ∙ ap (λ (mention_kind : List MentionKind). list_any (λ (r : Role). not (allows r role)) (roles_of mention_kind))
    (none_mentioned_by path ms h)

-- an element is counted where one is said
pub no_elements : (path : List Part) (ms : List Mention) → has is_element path ms ≡ false
    → elements_of path (tables_in ms) ≡ 0
no_elements path ms none = by (elements_of path (tables_in ms)) refl
  where
    by : (n : ℕ) → elements_of path (tables_in ms) ≡ n → n ≡ 0
    by zero e = refl
    by (suc n) e =
        let k : true ≡ false = sym (some_has is_element path ms (counted path ms (omega (arith, e)))) ∙ none in
        absurd cc

pub none_counted : (path : List Part) (ms : List Mention) → list_any (is_at path) ms ≡ false
    → elements_of path (tables_in ms) ≡ 0
none_counted path ms h = no_elements path ms (ap (list_any is_element) (none_mentioned_by path ms h))

pub lets_pass : (ms : List Mention) → ObeysRules (marks ms) → LetsPass (marks ms) (tables_in ms)
lets_pass ms obeys q some = element_past q ms (marks_let ms obeys) (some_has is_element q ms (counted q ms some))
