-- Where a bracket is one too many, some document continues after it.
--
-- The brackets of a line are those of its content, since a header and what comes after a value open none
-- (`line_opens`). Where the reading stops in a line, it stops in the value of a keyval, of which `DeepLaws` gives a
-- value that goes on; the line with this value (`line_deep`), after the lines that were read (`lines_deep`), is a
-- document that goes on.
--
-- Theorem: `document_deep`.
use Rattle.std.proofs.Common.{◌≡◌, ℕ, suc, ◌≤◌, Bool, true, false, cond, ◌&&◌, ◌==◌, List, [], ◌∷◌, ◌++◌, length}
use Rattle.std.proofs.Common.{slice_index, drop, Option, Some, None, Ok, Err, refl, sym, ap, ◌∙◌, subst, inl, inr}
use Rattle.std.proofs.Common.{arith, append_assoc}
use Rattle.std.specs.List.{flat_map, AllByRecursion}
use Rattle.std.proofs.lemmas.List.{append-nil}
use Rattle.keep_types.specs.declared.leaf.Profile.{Profile}
use Rattle.keep_types.specs.declared.leaf.Leaf.{Leaf}
use Rattle.keep_types.specs.declared.leaf.Leaf.TheVariants as leaf
use Rattle.keep_token.specs.Scanning.{first, gap_at}
use Rattle.keep_token.proofs.Shared.{tested, white, line, comment, nothing, gap_cases}
use Rattle.keep_syntax.specs.Tree.{Written, Gap, Key, Content, blank, keyval, header, element, Line, Ended, Document}
use Rattle.keep_syntax.specs.Tree.{token, key_leaves, name_leaves, value_leaves, content_leaves, comment_leaves}
use Rattle.keep_syntax.specs.Tree.{line_leaves, ended_leaves, bom_leaves, leaves, text, value_depth, content_depth}
use Rattle.keep_syntax.specs.Grammar.{IsContent, IsAfter, IsComment, IsLine, IsEnded, IsDocument, Reads}
use Rattle.keep_syntax.specs.Deep.{open_by, IsTooDeep}
use Rattle.keep_syntax.specs.Reading.{Bad, Deep, ◌>>=◌, Iteration, continues, ready, space_at, key_of, name_of}
use Rattle.keep_syntax.specs.Reading.{value_of, is_line_end, keyval_of, header_by, element_by, content_at, after_of}
use Rattle.keep_syntax.specs.Reading.{line_by, line_at, Lines, newline_of, after_line, ended_at, lines_of, has_bom}
use Rattle.keep_syntax.specs.Reading.{after_bom, read_document}
use Rattle.keep_syntax.proofs.LoopLaws.{bind_err, repeat_deep}
use Rattle.keep_syntax.proofs.SpaceLaws.{space_takes}
use Rattle.keep_syntax.proofs.KeyLaws.{key_not_deep, name_takes, name_not_deep}
use Rattle.keep_syntax.proofs.DeepLaws.{Opens, Plain, none-append, plain_first, plain_last, opens-none, space_opens}
use Rattle.keep_syntax.proofs.DeepLaws.{keys_open, name_opens, value_opens, Leads, leads_in, value_deep_at, leads_at}
use Rattle.keep_syntax.proofs.DocumentLaws.{lines_leaves, bom_parts, at_last, at_line, line_cases, document_read}

-- ---- lines close what they open

plain : (l : Leaf) (t : List ℕ) → ((n : ℕ) → open_by l n ≡ n) → Plain (token l t)
plain l t h n = (h n ∙ omega arith, omega (arith, h n))

header_opens : (profile : Profile) (l m : Leaf) (s t : List ℕ) (before : Gap) (k : Key) (after : Gap)
    → ((n : ℕ) → open_by l n ≡ n) → ((n : ℕ) → open_by m n ≡ n) → IsContent profile (header before k after)
    → Plain (token l s ++ (before ++ (key_leaves k ++ (after ++ token m t))))
header_opens profile l m s t before k after e f h =
    none-append (token l s) (before ++ (key_leaves k ++ (after ++ token m t))) (plain l s e)
    (none-append before (key_leaves k ++ (after ++ token m t)) (space_opens before h.0)
    (none-append (key_leaves k) (after ++ token m t) (keys_open profile k h.1)
    (none-append after (token m t) (space_opens after h.2) (plain m t f))))

pub content_opens : (profile : Profile) (c : Content) → IsContent profile c
    → Opens 0 (content_depth c) (content_leaves c)
content_opens profile blank h = opens-none
content_opens profile (keyval n v) h =
    plain_first (value_depth v) (name_leaves n) (value_leaves v) (name_opens profile n h.0) (value_opens profile v h.1)
content_opens profile (header before k after) h =
    header_opens profile leaf.HeadOpen leaf.HeadClose (0x5B ∷ []) (0x5D ∷ []) before k after (λ n. refl) (λ n. refl) h
content_opens profile (element before k after) h =
    header_opens profile leaf.ElemOpen leaf.ElemClose (0x5B ∷ 0x5B ∷ []) (0x5D ∷ 0x5D ∷ []) before k after (λ n. refl)
    (λ n. refl) h

after_opens : (c : Content) (g : Gap) → IsAfter c g → Plain g
after_opens blank g h = subst (λ (ws : List Written). Plain ws) (sym h) opens-none
after_opens (keyval n v) g h = space_opens g h
after_opens (header before k after) g h = space_opens g h
after_opens (element before k after) g h = space_opens g h

comment_opens : (o : Option Written) → IsComment o → Plain (comment_leaves o)
comment_opens None h = opens-none
comment_opens (Some w) h = plain w.leaf w.text (λ n. ap (λ (l : Leaf). open_by l n) h.0)

-- what comes after the content of a line
pub line_ends_open : (profile : Profile) (l : Line) → IsLine profile l → Plain (l.after ++ comment_leaves l.comment)
line_ends_open profile l h =
    none-append l.after (comment_leaves l.comment) (after_opens l.content l.after h.after)
    (comment_opens l.comment h.comment)

pub line_opens : (profile : Profile) (l : Line) → IsLine profile l → Opens 0 (content_depth l.content) (line_leaves l)
line_opens profile l h =
    let d = content_depth l.content in
    plain_first d l.before (content_leaves l.content ++ (l.after ++ comment_leaves l.comment))
    (space_opens l.before h.before)
    (plain_last d (content_leaves l.content) (l.after ++ comment_leaves l.comment)
    (content_opens profile l.content h.content) (line_ends_open profile l h))

pub ended_opens : (profile : Profile) (e : Ended) → IsEnded profile e
    → Opens 0 (content_depth e.line.content) (ended_leaves e)
ended_opens profile e h =
    plain_last (content_depth e.line.content) (line_leaves e.line) (e.newline ∷ []) (line_opens profile e.line h.line)
    (plain e.newline.leaf e.newline.text (λ n. ap (λ (l : Leaf). open_by l n) h.kind))

pub bom_opens : (b : Bool) → Plain (bom_leaves b)
bom_opens true = plain leaf.Bom (0xEF ∷ 0xBB ∷ 0xBF ∷ []) (λ n. refl)
bom_opens false = opens-none

-- ---- where reading stops at a bracket too many

record DeepLine (profile : Profile) (depth_left : ℕ) (text rest : List ℕ) : Type 0 where
  line : Line
  valid : IsLine profile line
  goes : Leads depth_left text rest (line_leaves line)

record DeepContent (profile : Profile) (depth_left : ℕ) (text rest : List ℕ) : Type 0 where
  content : Content
  valid : IsContent profile content
  after : IsAfter content []
  goes : Leads depth_left text rest (content_leaves content)

guard_not_deep : {A : Type 0} (b : Bool) (x : A) (rest : List ℕ) → cond b (Ok x) (Err Bad) ≡ Err (Deep rest) → ⊥
guard_not_deep true x rest e = absurd cc
guard_not_deep false x rest e = absurd cc

header_not_deep : (profile : Profile) (b : Gap × List ℕ) (rest : List ℕ) → header_by profile b ≡ Err (Deep rest) → ⊥
header_not_deep profile b rest h =
    elim (bind_err (key_of profile b.1)
    (λ k. cond (first k.1 == 0x5D) (Ok (header b.0 k.0.0 k.0.1, drop 1 k.1)) (Err Bad)) (Deep rest) h) [
      | inl k ↦ key_not_deep profile b.1 rest k
      | inr x ↦ guard_not_deep (first x.0.1 == 0x5D) (header b.0 x.0.0.0 x.0.0.1, drop 1 x.0.1) rest x.2
    ]

element_not_deep : (profile : Profile) (b : Gap × List ℕ) (rest : List ℕ) → element_by profile b ≡ Err (Deep rest) → ⊥
element_not_deep profile b rest h =
    elim (bind_err (key_of profile b.1)
    (λ k. cond (first k.1 == 0x5D && slice_index k.1 1 == 0x5D) (Ok (element b.0 k.0.0 k.0.1, drop 2 k.1)) (Err Bad))
    (Deep rest) h) [
      | inl k ↦ key_not_deep profile b.1 rest k
      | inr x ↦
          guard_not_deep (first x.0.1 == 0x5D && slice_index x.0.1 1 == 0x5D)
          (element b.0 x.0.0.0 x.0.0.1, drop 2 x.0.1) rest x.2
    ]

keyval_deep : (profile : Profile) (depth_left : ℕ) (text rest : List ℕ)
    → keyval_of profile depth_left text ≡ Err (Deep rest) → DeepContent profile depth_left text rest
keyval_deep profile depth_left text rest h =
    elim (bind_err (name_of profile text) (λ n. value_of profile depth_left n.1 >>= λ v. Ok (keyval n.0 v.0, v.1))
    (Deep rest) h) [
      | inl k ↦ absurd (name_not_deep profile text rest k)
      | inr x ↦ elim (bind_err (value_of profile depth_left x.0.1) (λ v. Ok (keyval x.0.0 v.0, v.1)) (Deep rest) x.2) [
        | inr y ↦ absurd (let bad = y.2 in cc)
        | inl k ↦
            let n = x.0 in
            let tn = name_takes profile text n.0 n.1 x.1 in
            let d = value_deep_at profile depth_left n.1 rest k in
            record {
              content = keyval n.0 d.value;
              valid = (tn.valid, d.valid);
              after = tt;
              goes = leads_in 0 0 depth_left depth_left text n.1 rest (name_leaves n.0) (value_leaves d.value) []
                  (content_leaves (keyval n.0 d.value)) (omega arith) (omega arith) (name_opens profile n.0 tn.valid)
                  tn.spelled (ap (λ (ws : List Written). name_leaves n.0 ++ ws)
                  (sym (append-nil (value_leaves d.value)))) d.goes;
            }
      ]
    ]

content_deep : (profile : Profile) (depth_left : ℕ) (text rest : List ℕ)
    → content_at profile depth_left text ≡ Err (Deep rest) → DeepContent profile depth_left text rest
unfolding content_at
content_deep profile depth_left text rest h =
    elim (tested (is_line_end (first text))) [
      | inl e ↦ absurd (let k = rw e at h in cc)
      | inr e ↦ elim (tested (first text == 0x5B && slice_index text 1 == 0x5B)) [
        | inl f ↦ absurd (element_not_deep profile (space_at (drop 2 text)) rest (rw (e, f) at h))
        | inr f ↦ elim (tested (first text == 0x5B)) [
          | inl g ↦ absurd (header_not_deep profile (space_at (drop 1 text)) rest (rw (e, f, g) at h))
          | inr g ↦ keyval_deep profile depth_left text rest (rw (e, f, g) at h)
        ]
      ]
    ]

line_deep : (profile : Profile) (depth_left : ℕ) (text rest : List ℕ)
    → line_at profile depth_left text ≡ Err (Deep rest) → DeepLine profile depth_left text rest
unfolding line_at
line_deep profile depth_left text rest h =
    let g = space_at text in
    let s = space_takes text in
    elim (bind_err (content_at profile depth_left g.1) (λ c. line_by g.0 c.0 (after_of c.0 c.1)) (Deep rest) h) [
      | inr x ↦ absurd (let bad = x.2 in cc)
      | inl k ↦
          let d = content_deep profile depth_left g.1 rest k in
          let l : Line = record { before = g.0; content = d.content; after = []; comment = None } in
          record {
            line = l;
            valid = record { before = s.valid; content = d.valid; after = d.after; comment = tt };
            goes = leads_in 0 0 depth_left depth_left text g.1 rest g.0 (content_leaves d.content) [] (line_leaves l)
                (omega arith) (omega arith) (space_opens g.0 s.valid) s.spelled refl d.goes;
          }
    ]

record DeepLines (profile : Profile) (depth_left : ℕ) (text rest : List ℕ) : Type 0 where
  ended : List Ended
  last : Line
  valid : AllByRecursion (IsEnded profile) ended
  valid_last : IsLine profile last
  goes : Leads depth_left text rest (lines_leaves ended last)

newline_not_deep : (prefix : List Ended) (l : Line) (text rest : List ℕ)
    → newline_of prefix l text (gap_at text) ≡ Err (Deep rest) → ⊥
newline_not_deep prefix l text rest h =
    elim (gap_cases text) [
      | white r f ↦ absurd (let k = rw r at h in cc)
      | line n r f found ↦ absurd (let k = rw r at h in cc)
      | comment n r f found stop ↦ absurd (let k = rw r at h in cc)
      | nothing r f ↦ absurd (let k = rw r at h in cc)
    ]

iteration_deep : (profile : Profile) (depth_left : ℕ) (prefix : List Ended) (text rest : List ℕ)
    → ended_at profile depth_left prefix text ≡ Err (Deep rest) → DeepLines profile depth_left text rest
unfolding ended_at
iteration_deep profile depth_left prefix text rest h =
    elim (bind_err (line_at profile depth_left text) (λ l. after_line prefix l.0 l.1) (Deep rest) h) [
      | inr x ↦ absurd (by x.0.0 x.0.1 x.2)
      | inl k ↦ let d =
          line_deep profile depth_left text rest k in
          record { ended = []; last = d.line; valid = tt; valid_last = d.valid; goes = d.goes }
    ]
  where
    by : (l : Line) (more : List ℕ) → after_line prefix l more ≡ Err (Deep rest) → ⊥
    by l [] e = absurd cc
    by l (c ∷ cs) e = newline_not_deep prefix l (c ∷ cs) rest e

abbrev iteration_on : List Ended → Iteration (List Ended) Lines
iteration_on s = continues s

abbrev iteration_ready : Lines → Iteration (List Ended) Lines
iteration_ready a = ready a

lines_deep : (profile : Profile) (depth_left : ℕ) (prefix : List Ended) (text rest : List ℕ)
    → lines_of profile depth_left prefix text ≡ Err (Deep rest) → DeepLines profile depth_left text rest
lines_deep profile depth_left prefix text rest h =
    repeat_deep (ended_at profile depth_left) (λ s t r. DeepLines profile depth_left t r)
    (iteration_deep profile depth_left) on (suc (length text)) prefix text rest h
  where
    clash : (x : List Ended) (y : Lines) → iteration_on x ≡ iteration_ready y → ⊥
    clash x y k = absurd cc

    on : (s : List Ended) (text : List ℕ) (s' : List Ended) (text' : List ℕ) (rest : List ℕ)
        → ended_at profile depth_left s text ≡ Ok (continues s', text') → DeepLines profile depth_left text' rest
        → DeepLines profile depth_left text rest
    on s text s' text' rest e d =
        elim (line_cases profile depth_left s text (continues s') text' e) [
          | at_last l k r tl ↦ absurd (clash s' (s, l) k)
          | at_line w k valid le spelled lt ↦ record {
            ended = w ∷ d.ended;
            last = d.last;
            valid = (valid, d.valid);
            valid_last = d.valid_last;
            goes = leads_in 0 (content_depth w.line.content) depth_left depth_left text text' rest (ended_leaves w)
                (lines_leaves d.ended d.last) [] (lines_leaves (w ∷ d.ended) d.last) (omega arith) le
                (ended_opens profile w valid) spelled
                (append_assoc (ended_leaves w) (flat_map ended_leaves d.ended) (line_leaves d.last)
                ∙ ap (λ (ws : List Written). ended_leaves w ++ ws) (sym (append-nil (lines_leaves d.ended d.last))))
                d.goes;
          }
        ]

-- ---- documents

pub record DeepDocument (profile : Profile) (limit : ℕ) (bytes rest : List ℕ) : Type 0 where
  pub document : Document
  pub valid : IsDocument profile document
  pub goes : Leads limit bytes rest (leaves document)

pub document_deep_at : (profile : Profile) (limit : ℕ) (bytes rest : List ℕ)
    → read_document profile limit bytes ≡ Err (Deep rest) → DeepDocument profile limit bytes rest
unfolding read_document
document_deep_at profile limit bytes rest h =
    let b = has_bom bytes in
    let t = after_bom b bytes in
    elim (bind_err (lines_of profile limit [] t) (λ l. Ok (record { bom = b; ended = l.0.0; last = l.0.1 })) (Deep rest)
    h) [
      | inr x ↦ absurd (let bad = x.2 in cc)
      | inl k ↦
          let d = lines_deep profile limit [] t rest k in
          let s : Document = record { bom = b; ended = d.ended; last = d.last } in
          let end = token leaf.End [] in
          record {
            document = s;
            valid = record { ended = d.valid; last = d.valid_last };
            goes = leads_in 0 0 limit limit bytes t rest (bom_leaves b) (lines_leaves d.ended d.last) end (leaves s)
                (omega arith) (omega arith) (bom_opens b) (bom_parts bytes)
                (ap (λ (ws : List Written). bom_leaves b ++ ws)
                (sym (append_assoc (flat_map ended_leaves d.ended) (line_leaves d.last) end))) d.goes;
          }
    ]

-- Where a document is reported as too deep, some document continues so, and none within the limit has the text.
pub document_deep : (profile : Profile) (limit : ℕ) (bytes : List ℕ) (at : ℕ) → at ≤ length bytes
    → read_document profile limit bytes ≡ Err (Deep (drop at bytes)) → IsTooDeep profile limit bytes at
document_deep profile limit bytes at le h =
    let d = document_deep_at profile limit bytes (drop at bytes) h in
    record {
      document = d.document;
      valid = d.valid;
      deep = leads_at limit bytes at (leaves d.document) le d.goes;
      none_within = λ s r. not_read s r;
    }
  where
    not_read : (s : Document) → Reads profile limit bytes s → ⊥
    not_read s r = let clash : Err (Deep (drop at bytes)) ≡ Ok s = sym h ∙ document_read profile limit bytes s r in cc
