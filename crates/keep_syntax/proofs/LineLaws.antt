-- What is read as a line is spelled so, and what is a line within the limit is read.
--
-- A line is white space, its content, white space and a comment. What is read: each part takes its text from the front
-- (`content_takes`, `after_takes`, `comment_takes`), and the texts are joined (`line_text`). What is written is read
-- again: the content is chosen by its first bytes (`content_again`), where a header must not be taken for an element:
-- neither its gap nor its key begins with a bracket. Each part has to end where the next begins, so for each there is a
-- lemma on the byte that may follow (`FollowsContent`, `after_follows`, `comment_ends`).
--
-- Theorems: `line_takes`: what is read is a line with that text; `line_again`: a line within the limit is read.
use Rattle.std.proofs.Common.{◌≡◌, ℕ, ◌<◌, ◌≤◌, Bool, true, false, not, cond, ◌&&◌, ◌==◌, List, [], ◌∷◌, ◌++◌, length}
use Rattle.std.proofs.Common.{slice_index, take, drop, Option, Some, None, Ok, Err, refl, sym, ap, ◌∙◌, subst, inl, inr}
use Rattle.std.proofs.Common.{arith, append_assoc, take_at, drop_at, eqb-true}
use Rattle.std.proofs.lemmas.Bool.{and_parts}
use Rattle.std.proofs.lemmas.Bool.Decides.{nat_tests}
use Rattle.std.proofs.lemmas.List.{append-nil, take-append-drop}
use Rattle.keep_types.specs.declared.leaf.Profile.{Profile}
use Rattle.keep_types.specs.declared.leaf.Profile.TheVariants.{Strict}
use Rattle.keep_types.specs.declared.leaf.Leaf.{Leaf}
use Rattle.keep_types.specs.declared.leaf.Leaf.TheVariants as leaf
use Rattle.keep_token.specs.Abnf.{is_ws, is_comment}
use Rattle.keep_token.specs.Leaves.{IsLeaf}
use Rattle.keep_token.specs.Scanning.{first, gap_at, may_follow_scalar}
use Rattle.keep_token.proofs.Shared.{tested, comment_again, newline_again, Gaps, white, line, comment, nothing}
use Rattle.keep_token.proofs.Shared.{gap_cases}
use Rattle.keep_syntax.specs.Tree.{Written, Gap, Key, Name, Value, Content, blank, keyval, header, element, Line, token}
use Rattle.keep_syntax.specs.Tree.{text_of, key_leaves, name_leaves, value_leaves, value_text, content_leaves}
use Rattle.keep_syntax.specs.Tree.{comment_leaves, line_leaves, content_depth}
use Rattle.keep_syntax.specs.Grammar.{IsContent, IsAfter, IsComment, IsLine}
use Rattle.keep_syntax.specs.Reading.{Bad, Read, ◌>>=◌, space_at, key_of, name_of, value_of, is_line_end, keyval_of}
use Rattle.keep_syntax.specs.Reading.{header_by, element_by, content_at, after_of, comment_of, comment_at, line_by}
use Rattle.keep_syntax.specs.Reading.{line_at}
use Rattle.keep_syntax.proofs.LoopLaws.{bind_ok, ok_is, guard_ok}
use Rattle.keep_syntax.proofs.SpaceLaws.{text_of-append, solid_no_ws, space_takes, space_again, space_class}
use Rattle.keep_syntax.proofs.SpaceLaws.{space_blank, comment_class, newline_class, is_stop, may_follow}
use Rattle.keep_syntax.proofs.KeyLaws.{first_is, is_key_first, key_first_solid, key_takes, key_reads, key_begins}
use Rattle.keep_syntax.proofs.KeyLaws.{name_takes, name_again, name_begins}
use Rattle.keep_syntax.proofs.ValueLaws.{value_takes, value_first_solid}
use Rattle.keep_syntax.proofs.AgainLaws.{value_again, value_begins}

-- ---- texts by parts

pub keyval_text : (n : Name) (v : Value) (rest : List ℕ)
    → text_of (content_leaves (keyval n v)) ++ rest ≡ text_of (name_leaves n) ++ (value_text v ++ rest)
keyval_text n v rest =
    ap (λ (t : List ℕ). t ++ rest) (text_of-append (name_leaves n) (value_leaves v))
    ∙ append_assoc (text_of (name_leaves n)) (value_text v) rest

pub header_text : (b : Gap) (k : Key) (a : Gap) (rest : List ℕ)
    → text_of (content_leaves (header b k a)) ++ rest ≡ 0x5B
    ∷ (text_of b ++ (text_of (key_leaves k) ++ (text_of a ++ (0x5D ∷ rest))))
header_text b k a rest =
    let z = token leaf.HeadClose (0x5D ∷ []) in
    ap (λ (t : List ℕ). 0x5B ∷ (t ++ rest))
    (text_of-append b (key_leaves k ++ (a ++ z))
    ∙ ap (λ (t : List ℕ). text_of b ++ t)
    (text_of-append (key_leaves k) (a ++ z) ∙ ap (λ (t : List ℕ). text_of (key_leaves k) ++ t) (text_of-append a z)))
    ∙ simp append_assoc

pub element_text : (b : Gap) (k : Key) (a : Gap) (rest : List ℕ)
    → text_of (content_leaves (element b k a)) ++ rest ≡ 0x5B ∷ 0x5B
    ∷ (text_of b ++ (text_of (key_leaves k) ++ (text_of a ++ (0x5D ∷ 0x5D ∷ rest))))
element_text b k a rest =
    let z = token leaf.ElemClose (0x5D ∷ 0x5D ∷ []) in
    ap (λ (t : List ℕ). 0x5B ∷ 0x5B ∷ (t ++ rest))
    (text_of-append b (key_leaves k ++ (a ++ z))
    ∙ ap (λ (t : List ℕ). text_of b ++ t)
    (text_of-append (key_leaves k) (a ++ z) ∙ ap (λ (t : List ℕ). text_of (key_leaves k) ++ t) (text_of-append a z)))
    ∙ simp append_assoc

pub line_text : (l : Line) (rest : List ℕ)
    → text_of (line_leaves l) ++ rest ≡ text_of l.before
    ++ (text_of (content_leaves l.content) ++ (text_of l.after ++ (text_of (comment_leaves l.comment) ++ rest)))
line_text l rest =
    let c = content_leaves l.content in
    let k = comment_leaves l.comment in
    ap (λ (t : List ℕ). t ++ rest)
    (text_of-append l.before (c ++ (l.after ++ k))
    ∙ ap (λ (t : List ℕ). text_of l.before ++ t)
    (text_of-append c (l.after ++ k) ∙ ap (λ (t : List ℕ). text_of c ++ t) (text_of-append l.after k)))
    ∙ simp append_assoc

-- two bytes that are known
pub two_are : (a b : ℕ) (text : List ℕ) → 0 < a → 0 < b → (first text == a && slice_index text 1 == b) ≡ true
    → text ≡ a ∷ b ∷ drop 2 text
two_are a b text some some' e =
    let (one, two) = and_parts (first text == a) (slice_index text 1 == b) e in
    by text one two
  where
    by : (text : List ℕ) → (first text == a) ≡ true → (slice_index text 1 == b) ≡ true → text ≡ a ∷ b ∷ drop 2 text
    by [] one two = absurd (omega (arith, eqb-true 0 a one))
    by (c ∷ []) one two = absurd (omega (arith, eqb-true 0 b two))
    by (c ∷ d ∷ cs) one two =
        ap (λ (x : ℕ). x ∷ d ∷ cs) (eqb-true c a one) ∙ ap (λ (x : ℕ). a ∷ x ∷ cs) (eqb-true d b two)

-- ---- comments

pub record Commented (text : List ℕ) (o : Option Written) (rest : List ℕ) : Type 0 where
  pub spelled : text ≡ text_of (comment_leaves o) ++ rest
  pub valid : IsComment o

pub comment_takes : (text : List ℕ) → Commented text (comment_at text).0 (comment_at text).1
unfolding comment_at
comment_takes text =
    elim (gap_cases text) [
      | white r f ↦ rw r (record { spelled = refl; valid = tt })
      | line n r f found ↦ rw r (record { spelled = refl; valid = tt })
      | comment n r f found stop ↦
          rw r (record {
            spelled = rw (append-nil (take n text)) (sym (take-append-drop n text));
            valid = (refl, found.leaf);
          })
      | nothing r f ↦ rw r (record { spelled = refl; valid = tt })
    ]

-- what ends a line: the end, or a newline
pub data LineEnd (rest : List ℕ) : Type 0 where
  at_end : rest ≡ [] → LineEnd rest
  at_newline : (t more : List ℕ) → IsLeaf Strict leaf.Newline t → rest ≡ t ++ more → LineEnd rest

pub ends_class : (p : ℕ → Bool) (rest : List ℕ) → p 0 ≡ false → p 0x0A ≡ false → p 0x0D ≡ false → LineEnd rest
    → p (first rest) ≡ false
ends_class p rest e0 e1 e2 (at_end e) = rw e e0
ends_class p rest e0 e1 e2 (at_newline t more k e) = rw e (newline_class p t more e1 e2 k)

comment_none : (rest : List ℕ) → LineEnd rest → comment_at rest ≡ (None, rest)
unfolding comment_at
comment_none rest (at_end e) = by (gap_cases rest)
  where
    by : Gaps rest (gap_at rest) → comment_of rest (gap_at rest) ≡ (None, rest)
    by (white r f) = rw r refl
    by (line n r f found) = rw r refl
    by (comment n r f found stop) = absurd (omega (arith, found.some, found.within, ap length e))
    by (nothing r f) = rw r refl
comment_none rest (at_newline t more h e) =
    let g : gap_at rest ≡ Some (leaf.Newline, length t) = ap gap_at e ∙ newline_again t more h in rw g refl

comment_read : (o : Option Written) (rest : List ℕ) → IsComment o → LineEnd rest
    → comment_at (text_of (comment_leaves o) ++ rest) ≡ (o, rest)
unfolding comment_at
comment_read None rest h end = comment_none rest end
comment_read (Some w) rest h end =
    let t = w.text in
    let g : gap_at (t ++ rest) ≡ Some (leaf.Comment, length t) =
    comment_again t rest h.1 (ends_class is_comment rest refl refl refl end) in
    let is_w : Some (record { leaf = leaf.Comment; text = t }) ≡ Some w =
    ap (λ (l : Leaf). Some (record { leaf = l; text = t })) (sym h.0) in
    let e : comment_of (t ++ rest) (gap_at (t ++ rest)) ≡ (Some w, rest) =
    rw (g, take_at t rest (length t) refl, drop_at t rest (length t) refl, is_w) refl in
    subst (λ (x : List ℕ). comment_of (x ++ rest) (gap_at (x ++ rest)) ≡ (Some w, rest)) (sym (append-nil t)) e

-- ---- contents

pub record TookContent (profile : Profile) (depth_left : ℕ) (text : List ℕ) (c : Content) (rest : List ℕ) : Type 0 where
  pub valid : IsContent profile c
  pub shallow : content_depth c ≤ depth_left
  pub spelled : text ≡ text_of (content_leaves c) ++ rest

keyval_takes : (profile : Profile) (depth_left : ℕ) (text : List ℕ) (c : Content) (rest : List ℕ)
    → keyval_of profile depth_left text ≡ Ok (c, rest) → TookContent profile depth_left text c rest
keyval_takes profile depth_left text c rest h =
    let (n, e1, e2) =
    bind_ok (name_of profile text) (λ n. value_of profile depth_left n.1 >>= λ v. Ok (keyval n.0 v.0, v.1)) (c, rest)
    h in
    let (v, e3, e4) = bind_ok (value_of profile depth_left n.1) (λ v. Ok (keyval n.0 v.0, v.1)) (c, rest) e2 in
    let tn = name_takes profile text n.0 n.1 e1 in
    let tv = value_takes profile depth_left n.1 v.0 v.1 e3 in
    let made : Content × List ℕ = (keyval n.0 v.0, v.1) in
    subst (λ (x : Content × List ℕ). TookContent profile depth_left text x.0 x.1) (ok_is made (c, rest) e4) (record {
      valid = (tn.valid, tv.valid);
      shallow = tv.shallow;
      spelled =
          tn.spelled ∙ ap (λ (x : List ℕ). text_of (name_leaves n.0) ++ x) tv.spelled ∙ sym (keyval_text n.0 v.0 v.1);
    })

header_takes : (profile : Profile) (depth_left : ℕ) (text : List ℕ) (c : Content) (rest : List ℕ)
    → header_by profile (space_at text) ≡ Ok (c, rest) → TookContent profile depth_left (0x5B ∷ text) c rest
header_takes profile depth_left text c rest h =
    let b = space_at text in
    let sb = space_takes text in
    let go : (Key × Gap) × List ℕ → Read Content =
    λ k. cond (first k.1 == 0x5D) (Ok (header b.0 k.0.0 k.0.1, drop 1 k.1)) (Err Bad) in
    let (k, e1, e2) = bind_ok (key_of profile b.1) go (c, rest) h in
    let tk = key_takes profile b.1 k.0 k.1 e1 in
    let g = guard_ok (first k.1 == 0x5D) Bad (header b.0 k.0.0 k.0.1, drop 1 k.1) (c, rest) e2 in
    let close : k.1 ≡ 0x5D ∷ drop 1 k.1 = first_is 0x5D k.1 (omega arith) g.0 in
    subst (λ (x : Content × List ℕ). TookContent profile depth_left (0x5B ∷ text) x.0 x.1) g.1 (record {
      valid = (sb.valid, tk.valid, tk.gap);
      shallow = omega arith;
      spelled =
          ap (λ (x : List ℕ). 0x5B ∷ x) (sb.spelled
          ∙ ap (λ (x : List ℕ). text_of b.0 ++ x)
          (tk.spelled ∙ ap (λ (x : List ℕ). text_of (key_leaves k.0.0) ++ (text_of k.0.1 ++ x)) close))
          ∙ sym (header_text b.0 k.0.0 k.0.1 (drop 1 k.1));
    })

element_takes : (profile : Profile) (depth_left : ℕ) (text : List ℕ) (c : Content) (rest : List ℕ)
    → element_by profile (space_at text) ≡ Ok (c, rest) → TookContent profile depth_left (0x5B ∷ 0x5B ∷ text) c rest
element_takes profile depth_left text c rest h =
    let b = space_at text in
    let sb = space_takes text in
    let go : (Key × Gap) × List ℕ → Read Content =
    λ k. cond (first k.1 == 0x5D && slice_index k.1 1 == 0x5D) (Ok (element b.0 k.0.0 k.0.1, drop 2 k.1)) (Err Bad) in
    let (k, e1, e2) = bind_ok (key_of profile b.1) go (c, rest) h in
    let tk = key_takes profile b.1 k.0 k.1 e1 in
    let g = guard_ok (first k.1 == 0x5D && slice_index k.1 1 == 0x5D) Bad (element b.0 k.0.0 k.0.1, drop 2 k.1)
    (c, rest) e2 in
    let close : k.1 ≡ 0x5D ∷ 0x5D ∷ drop 2 k.1 = two_are 0x5D 0x5D k.1 (omega arith) (omega arith) g.0 in
    subst (λ (x : Content × List ℕ). TookContent profile depth_left (0x5B ∷ 0x5B ∷ text) x.0 x.1) g.1 (record {
      valid = (sb.valid, tk.valid, tk.gap);
      shallow = omega arith;
      spelled =
          ap (λ (x : List ℕ). 0x5B ∷ 0x5B ∷ x)
          (sb.spelled
          ∙ ap (λ (x : List ℕ). text_of b.0 ++ x)
          (tk.spelled ∙ ap (λ (x : List ℕ). text_of (key_leaves k.0.0) ++ (text_of k.0.1 ++ x)) close))
          ∙ sym (element_text b.0 k.0.0 k.0.1 (drop 2 k.1));
    })

pub content_takes : (profile : Profile) (depth_left : ℕ) (text : List ℕ) (c : Content) (rest : List ℕ)
    → content_at profile depth_left text ≡ Ok (c, rest) → TookContent profile depth_left text c rest
unfolding content_at
content_takes profile depth_left text c rest h =
    elim (tested (is_line_end (first text))) [
      | inl e ↦
          subst (λ (x : Content × List ℕ). TookContent profile depth_left text x.0 x.1)
          (ok_is (blank, text) (c, rest) (rw e at h)) (record { valid = tt; shallow = omega arith; spelled = refl })
      | inr e ↦ elim (tested (first text == 0x5B && slice_index text 1 == 0x5B)) [
        | inl f ↦
            subst (λ (x : List ℕ). TookContent profile depth_left x c rest)
            (sym (two_are 0x5B 0x5B text (omega arith) (omega arith) f))
            (element_takes profile depth_left (drop 2 text) c rest (rw (e, f) at h))
        | inr f ↦ elim (tested (first text == 0x5B)) [
          | inl g ↦
              subst (λ (x : List ℕ). TookContent profile depth_left x c rest) (sym (first_is 0x5B text (omega arith) g))
              (header_takes profile depth_left (drop 1 text) c rest (rw (e, f, g) at h))
          | inr g ↦ keyval_takes profile depth_left text c rest (rw (e, f, g) at h)
        ]
      ]
    ]

-- ---- lines

pub record TookLine (profile : Profile) (depth_left : ℕ) (text : List ℕ) (l : Line) (rest : List ℕ) : Type 0 where
  pub valid : IsLine profile l
  pub shallow : content_depth l.content ≤ depth_left
  pub spelled : text ≡ text_of (line_leaves l) ++ rest

after_takes : (c : Content) (text : List ℕ)
    → (text ≡ text_of (after_of c text).0 ++ (after_of c text).1) × IsAfter c (after_of c text).0
after_takes blank text = (refl, refl)
after_takes (keyval name value) text = let s = space_takes text in (s.spelled, s.valid)
after_takes (header before key after) text = let s = space_takes text in (s.spelled, s.valid)
after_takes (element before key after) text = let s = space_takes text in (s.spelled, s.valid)

pub line_takes : (profile : Profile) (depth_left : ℕ) (text : List ℕ) (l : Line) (rest : List ℕ)
    → line_at profile depth_left text ≡ Ok (l, rest) → TookLine profile depth_left text l rest
unfolding line_at
line_takes profile depth_left text l rest h =
    let s = space_takes text in
    let g = (space_at text).0 in
    let (c, e1, e2) =
    bind_ok (content_at profile depth_left (space_at text).1) (λ c. line_by g c.0 (after_of c.0 c.1)) (l, rest) h in
    let t = content_takes profile depth_left (space_at text).1 c.0 c.1 e1 in
    let a = after_of c.0 c.1 in
    let (ea, va) = after_takes c.0 c.1 in
    let k = comment_takes a.1 in
    let made : Line × List ℕ =
    (record { before = g; content = c.0; after = a.0; comment = (comment_at a.1).0 }, (comment_at a.1).1) in
    subst (λ (x : Line × List ℕ). TookLine profile depth_left text x.0 x.1) (ok_is made (l, rest) e2) (record {
      valid = record { before = s.valid; content = t.valid; after = va; comment = k.valid };
      shallow = t.shallow;
      spelled =
          s.spelled
          ∙ ap (λ (x : List ℕ). text_of g ++ x)
          (t.spelled
          ∙ ap (λ (x : List ℕ). text_of (content_leaves c.0) ++ x)
          (ea ∙ ap (λ (x : List ℕ). text_of a.0 ++ x) k.spelled)) ∙ sym (line_text made.0 made.1);
    })

-- ---- what is spelled so is read

pub key_first_facts : (c : ℕ) → is_key_first c ≡ true → (is_line_end c ≡ false) × ((c == 0x5B) ≡ false)
key_first_facts c h = (grind (arith, nat_tests), grind (arith, nat_tests))

ws_no_bracket : (c : ℕ) → is_ws c ≡ true → (c == 0x5B) ≡ false
ws_no_bracket c h = grind (arith, nat_tests)

-- what must follow a content
abbrev pub FollowsContent : Content → List ℕ → Type 0
FollowsContent blank rest = is_line_end (first rest) ≡ true
FollowsContent _ rest = may_follow_scalar rest ≡ true

pub content_again : (profile : Profile) (depth_left : ℕ) (c : Content) (rest : List ℕ) → IsContent profile c
    → content_depth c ≤ depth_left → FollowsContent c rest
    → content_at profile depth_left (text_of (content_leaves c) ++ rest) ≡ Ok (c, rest)
unfolding content_at
content_again profile depth_left blank rest h le follows = rw follows refl
content_again profile depth_left (keyval n v) rest h le follows =
    let t1 = value_text v ++ rest in
    let f = key_first_facts (first (text_of (name_leaves n) ++ t1)) (name_begins profile n t1 h.0) in
    let one : name_of profile (text_of (name_leaves n) ++ t1) ≡ Ok (n, t1) =
    name_again profile n t1 h.0 (solid_no_ws (first t1)
    (value_first_solid (first t1) (value_begins profile v rest h.1))) in
    let two : value_of profile depth_left t1 ≡ Ok (v, rest) = value_again profile depth_left v rest h.1 le follows in
    rw (keyval_text n v rest, f.0, f.1, one, two) refl
content_again profile depth_left (header b k a) rest h le follows =
    let z = 0x5D ∷ rest in
    let t2 = text_of (key_leaves k) ++ (text_of a ++ z) in
    let t1 = text_of b ++ t2 in
    let kf = key_begins profile k (text_of a ++ z) h.1 in
    let f = key_first_facts (first t2) kf in
    let not_two : (slice_index (0x5B ∷ t1) 1 == 0x5B) ≡ false =
    space_class (λ c. c == 0x5B) b t2 h.0 ws_no_bracket f.1 in
    let one : space_at t1 ≡ (b, t2) = space_again b t2 h.0 (solid_no_ws (first t2) (key_first_solid (first t2) kf)) in
    let two : key_of profile t2 ≡ Ok ((k, a), z) = key_reads profile k a z h.1 h.2 refl in
    ap (content_at profile depth_left) (header_text b k a rest) ∙ rw (not_two, one, two) refl
content_again profile depth_left (element b k a) rest h le follows =
    let z = 0x5D ∷ 0x5D ∷ rest in
    let t2 = text_of (key_leaves k) ++ (text_of a ++ z) in
    let t1 = text_of b ++ t2 in
    let kf = key_begins profile k (text_of a ++ z) h.1 in
    let one : space_at t1 ≡ (b, t2) = space_again b t2 h.0 (solid_no_ws (first t2) (key_first_solid (first t2) kf)) in
    let two : key_of profile t2 ≡ Ok ((k, a), z) = key_reads profile k a z h.1 h.2 refl in
    ap (content_at profile depth_left) (element_text b k a rest) ∙ rw (one, two) refl

line_end_facts : (c : ℕ) → is_line_end c ≡ true → (is_ws c ≡ false) × (is_stop c ≡ true)
line_end_facts c h = (grind (arith, nat_tests), grind (arith, nat_tests))

pub line_ends : (rest : List ℕ) → LineEnd rest → is_line_end (first rest) ≡ true
line_ends rest end = by (ends_class (λ c. not (is_line_end c)) rest refl refl refl end)
  where
    by : not (is_line_end (first rest)) ≡ false → is_line_end (first rest) ≡ true
    by e = grind (arith, nat_tests)

comment_ends : (o : Option Written) (rest : List ℕ) → IsComment o → LineEnd rest
    → is_line_end (first (text_of (comment_leaves o) ++ rest)) ≡ true
comment_ends None rest h end = line_ends rest end
comment_ends (Some w) rest h end = by (comment_class (λ c. not (is_line_end c)) w.text rest refl h.1)
  where
    by : not (is_line_end (first (w.text ++ rest))) ≡ false → is_line_end (first ((w.text ++ []) ++ rest)) ≡ true
    by e = rw (append-nil w.text) (grind (arith, nat_tests))

after_again : (c : Content) (after : Gap) (x : List ℕ) → IsAfter c after → is_ws (first x) ≡ false
    → after_of c (text_of after ++ x) ≡ (after, x)
after_again blank after x a stop = rw a refl
after_again (keyval n v) after x a stop = space_again after x a stop
after_again (header before key suffix) after x a stop = space_again after x a stop
after_again (element before key suffix) after x a stop = space_again after x a stop

after_follows : (c : Content) (after : Gap) (x : List ℕ) → IsAfter c after → is_line_end (first x) ≡ true
    → FollowsContent c (text_of after ++ x)
after_follows blank after x a e = rw a e
after_follows (keyval n v) after x a e = may_follow after x (space_blank after a) (line_end_facts (first x) e).1
after_follows (header before key suffix) after x a e =
    may_follow after x (space_blank after a) (line_end_facts (first x) e).1
after_follows (element before key suffix) after x a e =
    may_follow after x (space_blank after a) (line_end_facts (first x) e).1

content_no_ws : (profile : Profile) (c : Content) (after : Gap) (x : List ℕ) → IsContent profile c → IsAfter c after
    → is_ws (first x) ≡ false → is_ws (first (text_of (content_leaves c) ++ (text_of after ++ x))) ≡ false
content_no_ws profile blank after x h a stop = rw a stop
content_no_ws profile (keyval n v) after x h a stop =
    let rest = text_of after ++ x in
    rw (keyval_text n v rest) (solid_no_ws (first (text_of (name_leaves n) ++ (value_text v ++ rest)))
    (key_first_solid (first (text_of (name_leaves n) ++ (value_text v ++ rest)))
    (name_begins profile n (value_text v ++ rest) h.0)))
content_no_ws profile (header before key suffix) after x h a stop = refl
content_no_ws profile (element before key suffix) after x h a stop = refl

pub line_again : (profile : Profile) (depth_left : ℕ) (l : Line) (rest : List ℕ) → IsLine profile l
    → content_depth l.content ≤ depth_left → LineEnd rest
    → line_at profile depth_left (text_of (line_leaves l) ++ rest) ≡ Ok (l, rest)
unfolding line_at
line_again profile depth_left l rest h le end =
    let x3 = text_of (comment_leaves l.comment) ++ rest in
    let x2 = text_of l.after ++ x3 in
    let x1 = text_of (content_leaves l.content) ++ x2 in
    let ends3 : is_line_end (first x3) ≡ true = comment_ends l.comment rest h.comment end in
    let no_ws3 : is_ws (first x3) ≡ false = (line_end_facts (first x3) ends3).0 in
    let gap : space_at (text_of l.before ++ x1) ≡ (l.before, x1) =
    space_again l.before x1 h.before (content_no_ws profile l.content l.after x3 h.content h.after no_ws3) in
    let content : content_at profile depth_left x1 ≡ Ok (l.content, x2) =
    content_again profile depth_left l.content x2 h.content le (after_follows l.content l.after x3 h.after ends3) in
    let after : after_of l.content x2 ≡ (l.after, x3) = after_again l.content l.after x3 h.after no_ws3 in
    let comment : comment_at x3 ≡ (l.comment, rest) = comment_read l.comment rest h.comment end in
    let e : (content_at profile depth_left (space_at (text_of l.before ++ x1)).1 >>= λ c.
    line_by (space_at (text_of l.before ++ x1)).0 c.0 (after_of c.0 c.1)) ≡ Ok (l, rest) =
    rw (gap, content, after, comment) refl in
    subst (λ (x : List ℕ).
    (content_at profile depth_left (space_at x).1 >>= λ c. line_by (space_at x).0 c.0 (after_of c.0 c.1))
    ≡ Ok (l, rest)) (sym (line_text l rest)) e
