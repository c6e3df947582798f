-- What may be at a path that a header goes through, where no body is the path's and no keyval's key continues from it.
--
-- A mention beside one of a header that goes through must allow it, or be allowed by it: by the table it is such a
-- mention too, a definition, or one by dots (`all_meet`). A definition would begin a body. One by dots comes from a
-- keyval: from its own key, which continues from the path, or from a key inside its value, and then the path is at or
-- under the keyval's (`dotted_lines`).
--
-- Theorems: `all_meet`, `none_mentioned` and `dotted_lines`.
use Rattle.std.proofs.Common.{◌≡◌, ℕ, ◌-◌, Bool, true, false, cond, List, [], ◌∷◌, ◌++◌, map, refl, sym, ap, subst, ◌∙◌}
use Rattle.std.proofs.Common.{append_assoc, Option, ◌⊎◌, inl, inr}
use Rattle.std.specs.Prelude.{◌==◌}
use Rattle.keep_syntax.specs.Tree.{Written, Gap, Content, blank, keyval, header, element, Line}
use Rattle.keep_path.specs.Path.{Part, key, index}
use Rattle.keep_meaning.specs.Marks.{MentionKind, through, past, define, dotted, value, begun, passed, Mention, Reading}
use Rattle.keep_meaning.specs.Marks.{below, header_prefixes, passing_mentions, entered_path, elements_of}
use Rattle.keep_meaning.specs.Marks as marks_of
use Rattle.keep_meaning.specs.Meaning.{keys_of, key_value, further_value, keyed_mentions, valued_mentions}
use Rattle.keep_meaning.specs.Meaning.{entries_mentions, keyval_mentions, body_fact, line_mentions, lines_mentions}
use Rattle.keep_meaning.specs.Meaning.{after_line}
use Rattle.keep_meaning.specs.Nodes.{is_through, is_dotted}
use Rattle.keep_edit_spec.specs.Lines.{last_line, leads_dotted}
use Rattle.keep_edit_spec.proofs.Common.Runs.{AllOf, SomeOf, Rules, Allowed, kinds_allow, meet, some_left, some_right}
use Rattle.keep_edit_spec.proofs.Common.SetLaw.{IsAloneAt, keyed_split}
use Rattle.keep_edit_spec.proofs.Common.LineLaws.{EndsInKey}
use Rattle.keep_edit_spec.proofs.Common.Doubles.{IsMentioned, some_has}
use Rattle.keep_edit_spec.proofs.Common.Stops.{some_unbelow}
use Rattle.keep_edit_spec.proofs.Common.ValueThere.{IsSome, some_cases}
use Rattle.keep_edit_spec.proofs.Common.RemoveThere.{some_here, some_later}

-- ---- beside a header that goes through

-- a header may go through where this is said
abbrev pub meets : MentionKind → Bool
meets through = true
meets define = true
meets dotted = true
meets begun = true
meets passed = true
meets _ = false

after_through : (a : MentionKind) → kinds_allow through a ≡ true → meets a ≡ true
after_through through h = refl
after_through define h = refl
after_through dotted h = refl
after_through begun h = refl
after_through passed h = refl
after_through other h = absurd cc

before_through : (a : MentionKind) → kinds_allow a through ≡ true → meets a ≡ true
before_through through h = refl
before_through define h = refl
before_through dotted h = refl
before_through begun h = refl
before_through passed h = refl
before_through other h = absurd cc

only_through : (a : MentionKind) → is_through a ≡ true → a ≡ through
only_through through h = refl
only_through other h = absurd cc

abbrev Meets : List Part → Mention → Type 0
Meets a x = x.path ≡ a → meets x.kind ≡ true

all_after : (a : List Part) (m : Mention) (ms : List Mention) → m.path ≡ a → m.kind ≡ through → AllOf (Allowed m) ms
    → AllOf (Meets a) ms
all_after a m [] e t h = tt
all_after a m (x ∷ ms) e t h = (
  (λ k. after_through x.kind (ap (λ (b : MentionKind). kinds_allow b x.kind) (sym t) ∙ h.0 (e ∙ sym k))),
  all_after a m ms e t h.1,
)

pub all_meet : (a : List Part) (ms : List Mention) → SomeOf (IsMentioned is_through a) ms → Rules ms
    → AllOf (Meets a) ms
all_meet a [] s rules = tt
all_meet a (m ∷ ms) (inl s) rules =
    let t : m.kind ≡ through = only_through m.kind s.1 in
    ((λ e. ap meets t), all_after a m ms s.0 t rules.0)
all_meet a (m ∷ ms) (inr s) rules =
    let (x, there, lets) = meet (IsMentioned is_through a) (Allowed m) ms s rules.0 in (
      (λ e. before_through m.kind (ap (kinds_allow m.kind) (sym (only_through x.kind there.1))
          ∙ lets (e ∙ sym there.0))),
      all_meet a ms s rules.1,
    )

-- what is never said at a path
pub none_mentioned : (is : MentionKind → Bool) (a : List Part) (ms : List Mention) → (SomeOf (IsMentioned is a) ms → ⊥)
    → AllOf (λ (x : Mention). x.path ≡ a → is x.kind ≡ false) ms
none_mentioned is a [] never = tt
none_mentioned is a (m ∷ ms) never = ((λ e. by (is m.kind) refl e), none_mentioned is a ms (λ s. never (inr s)))
  where
    by : (b : Bool) → is m.kind ≡ b → m.path ≡ a → is m.kind ≡ false
    by false k e = k
    by true k e = absurd (never (inl (e, k)))

-- ---- a dotted key on the path, but not a keyval's own

-- the path lies at or under that of a keyval, which is alone there
pub record IsHeldIn (a : List Part) (ms : List Mention) : Type 0 where
  pub path : List Part
  pub ends : EndsInKey path
  pub rest : List Part
  pub whole : a ≡ path ++ rest
  pub alone : SomeOf (IsAloneAt path) ms

held_more : (a : List Part) (xs ys : List Mention) → IsHeldIn a xs → IsHeldIn a (xs ++ ys)
held_more a xs ys h =
    record {
      path = h.path;
      ends = h.ends;
      rest = h.rest;
      whole = h.whole;
      alone = some_left (IsAloneAt h.path) xs ys h.alone;
    }

held_later : (a : List Part) (xs ys : List Mention) → IsHeldIn a ys → IsHeldIn a (xs ++ ys)
held_later a xs ys h =
    record {
      path = h.path;
      ends = h.ends;
      rest = h.rest;
      whole = h.whole;
      alone = some_right (IsAloneAt h.path) xs ys h.alone;
    }

keys_end : (body : List Part) (k : List ℕ) (ks : List (List ℕ)) → EndsInKey (body ++ map key (k ∷ ks))
keys_end body k [] = (body, k, refl)
keys_end body k (l ∷ ks) =
    let e = keys_end (body ++ key k ∷ []) l ks in
    (e.0, e.1, sym (append_assoc body (key k ∷ []) (map key (l ∷ ks))) ∙ e.2)

alone_below : (s p : List Part) (ms : List Mention) → SomeOf (IsAloneAt p) ms
    → SomeOf (IsAloneAt (s ++ p)) (map (below s) ms)
alone_below s p [] h = absurd h
alone_below s p (m ∷ ms) (inl h) = inl (record { path = ap (λ (q : List Part). s ++ q) h.path; kind = h.kind })
alone_below s p (m ∷ ms) (inr h) = inr (alone_below s p ms h)

no_dotted_pass : (q a : List Part) (n : ℕ) (b : Bool)
    → SomeOf (IsMentioned is_dotted a)
    (cond b (record { path = q; kind = through } ∷ [])
    (record { path = q; kind = past } ∷ record { path = cond b q (q ++ index n ∷ []); kind = passed } ∷ [])) → ⊥
no_dotted_pass q a n true (inl h) = let no : is_dotted through ≡ true = h.1 in absurd cc
no_dotted_pass q a n true (inr h) = h
no_dotted_pass q a n false (inl h) = let no : is_dotted past ≡ true = h.1 in absurd cc
no_dotted_pass q a n false (inr (inl h)) = let no : is_dotted passed ≡ true = h.1 in absurd cc
no_dotted_pass q a n false (inr (inr h)) = h

pub no_dotted_prefixes : (tables : List (List Part)) (at : List Part) (keys : List (List ℕ)) (a : List Part)
    → SomeOf (IsMentioned is_dotted a) (header_prefixes tables at keys) → ⊥
no_dotted_prefixes tables at [] a h = h
no_dotted_prefixes tables at (k ∷ []) a h = h
no_dotted_prefixes tables at (k ∷ l ∷ ks) a h =
    let q : List Part = at ++ key k ∷ [] in
    elim (some_cases (IsMentioned is_dotted a) (passing_mentions tables q)
    (header_prefixes tables (entered_path tables q) (l ∷ ks)) h) [
      | inl s ↦ no_dotted_pass q a (elements_of q tables - 1) (0 == elements_of q tables) s
      | inr s ↦ no_dotted_prefixes tables (entered_path tables q) (l ∷ ks) a s
    ]

dotted_by : (a : List Part) (r : Reading) (before after : Gap) (comment : Option Written) (c : Content)
    → (let l : Line = record { before = before; content = c; after = after; comment = comment } in
    SomeOf (IsMentioned is_dotted a) (line_mentions r l) → (leads_dotted a r l ≡ true) ⊎ IsHeldIn a (line_mentions r l))
dotted_by a r before after comment blank s = absurd s
dotted_by a r before after comment (header b k x) s =
    elim (some_cases (IsMentioned is_dotted a) (header_prefixes r.tables [] (keys_of k)) _ s) [
      | inl w ↦ absurd (no_dotted_prefixes r.tables [] (keys_of k) a w)
      | inr t ↦ (elim t [ inl h ↦ (let no : is_dotted define ≡ true = h.1 in absurd cc) | inr h ↦ absurd h ])
    ]
dotted_by a r before after comment (element b k x) s =
    elim (some_cases (IsMentioned is_dotted a) (header_prefixes r.tables [] (keys_of k)) _ s) [
      | inl w ↦ absurd (no_dotted_prefixes r.tables [] (keys_of k) a w)
      | inr t ↦ (elim t [
        | inl h ↦ (let no : is_dotted marks_of.element ≡ true = h.1 in absurd cc)
        | inr u ↦ (elim u [ inl h ↦ (let no : is_dotted begun ≡ true = h.1 in absurd cc) | inr h ↦ absurd h ])
      ])
    ]
dotted_by a r before after comment (keyval name v) s =
    let keys : List (List ℕ) = keys_of name.key in
    let vs : List Mention = valued_mentions (value (body_fact v.body)) (entries_mentions 0 v.nested) in
    let u = some_unbelow is_dotted r.body a (keyval_mentions name v) s in
    let inner : SomeOf (IsMentioned is_dotted u.0) (keyed_mentions keys [] ++ map (below (map key keys)) vs) =
    subst (λ (l : List Mention). SomeOf (IsMentioned is_dotted u.0) l) (keyed_split keys vs) u.1.1 in
    elim (some_cases (IsMentioned is_dotted u.0) (keyed_mentions keys []) (map (below (map key keys)) vs) inner) [
      | inl own ↦
          inl (some_has is_dotted a (map (below r.body) (keyed_mentions keys []))
          (subst (λ (p : List Part). SomeOf (IsMentioned is_dotted p) (map (below r.body) (keyed_mentions keys [])))
          (sym u.1.0) (mentioned_below r.body u.0 (keyed_mentions keys []) own)))
      | inr deep ↦
          (let w = some_unbelow is_dotted (map key keys) u.0 vs deep in
          inr (record {
            path = r.body ++ map key keys;
            ends = keys_end r.body (key_value name.key.first) (map further_value name.key.more);
            rest = w.0;
            whole = u.1.0 ∙ ap (λ (q : List Part). r.body ++ q) w.1.0 ∙ sym (append_assoc r.body (map key keys) w.0);
            alone = alone_below r.body (map key keys) (keyval_mentions name v)
                (subst (λ (l : List Mention). SomeOf (IsAloneAt (map key keys)) l) (sym (keyed_split keys vs))
                (some_right (IsAloneAt (map key keys)) (keyed_mentions keys []) (map (below (map key keys)) vs)
                (inl (record { path = no_more (map key keys); kind = refl }))));
          }))
    ]
  where
    mentioned_below : (s y : List Part) (ms : List Mention) → SomeOf (IsMentioned is_dotted y) ms
        → SomeOf (IsMentioned is_dotted (s ++ y)) (map (below s) ms)
    mentioned_below s y [] h = absurd h
    mentioned_below s y (m ∷ ms) (inl h) = inl (ap (λ (q : List Part). s ++ q) h.0, h.1)
    mentioned_below s y (m ∷ ms) (inr h) = inr (mentioned_below s y ms h)

    no_more : (p : List Part) → p ++ [] ≡ p
    no_more [] = refl
    no_more (x ∷ p) = ap (λ (q : List Part). x ∷ q) (no_more p)

pub dotted_lines : (a : List Part) (r : Reading) (ls : List Line)
    → SomeOf (IsMentioned is_dotted a) (lines_mentions r ls)
    → IsSome (last_line (leads_dotted a) r ls) ⊎ IsHeldIn a (lines_mentions r ls)
dotted_lines a r [] s = absurd s
dotted_lines a r (l ∷ ls) s =
    elim (some_cases (IsMentioned is_dotted a) (line_mentions r l) (lines_mentions (after_line r l) ls) s) [
      | inl h ↦ (elim (dotted_by a r l.before l.after l.comment l.content h) [
        | inl e ↦ inl (some_here (leads_dotted a) r l ls e)
        | inr k ↦ inr (held_more a (line_mentions r l) (lines_mentions (after_line r l) ls) k)
      ])
      | inr h ↦ (elim (dotted_lines a (after_line r l) ls h) [
        | inl e ↦ inl (some_later (leads_dotted a) r l ls e)
        | inr k ↦ inr (held_later a (line_mentions r l) (lines_mentions (after_line r l) ls) k)
      ])
    ]
