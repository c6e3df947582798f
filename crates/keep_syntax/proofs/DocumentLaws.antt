-- A document is read exactly where there is one within the limit, and there is at most one.
--
-- A document is read as a loop over lines. `line_cases` says what an iteration does: it reads the last line, or a line
-- with its newline. In one direction the loop's invariant is that the lines so far and the rest make up the text
-- (`lines_take`); in the other, `lines_again` is an induction over the lines of the tree. A text may begin with a byte
-- order mark: no line does, so the text is read in one way only (`bom_no_line`, `lines_no_bom`). That at most one
-- document has a text follows, as both would be read. A larger limit reads the same, unless the smaller was passed
-- (`document_depth_left`), so a syntax error is one at every depth.
--
-- Theorems: `document_found` and `document_read`: read exactly where there is one; `one_document`: there is at most
-- one.
use Rattle.std.proofs.Common.{◌≡◌, ℕ, suc, ◌<◌, ◌≤◌, max, Bool, true, false, ◌&&◌, ◌==◌, List, [], ◌∷◌, ◌++◌, length}
use Rattle.std.proofs.Common.{slice_index, take, drop, Some, Result, Ok, Err, refl, sym, ap, ◌∙◌, subst, inl, inr}
use Rattle.std.proofs.Common.{arith, append_assoc, take_at, drop_at, eqb-true, ◌⊎◌}
use Rattle.std.specs.List.{flat_map, AllByRecursion}
use Rattle.std.proofs.lemmas.Bool.{and_parts}
use Rattle.std.proofs.lemmas.List.{append-nil, take-append-drop, length-append, length-drop}
use Rattle.keep_types.specs.declared.leaf.Profile.{Profile}
use Rattle.keep_types.specs.declared.leaf.Profile.TheVariants.{Strict}
use Rattle.keep_types.specs.declared.leaf.Leaf.{Leaf}
use Rattle.keep_types.specs.declared.leaf.Leaf.TheVariants as leaf
use Rattle.keep_token.specs.Abnf.{is_ws, is_bare}
use Rattle.keep_token.specs.Leaves.{IsLeaf}
use Rattle.keep_token.specs.Scanning.{first, gap_at, key_at}
use Rattle.keep_token.proofs.Shared.{tested, newline_again, white, line, comment, nothing, gap_cases}
use Rattle.keep_syntax.specs.Tree.{Written, Line, Ended, Document, token, text_of, line_leaves, ended_leaves}
use Rattle.keep_syntax.specs.Tree.{bom_leaves, text, content_depth, lines_depth, depth}
use Rattle.keep_syntax.specs.Grammar.{IsLine, IsEnded, IsDocument, Reads}
use Rattle.keep_syntax.specs.Reading.{Fault, Bad, ◌>>=◌, Iteration, continues, ready, written, space_at, part_at}
use Rattle.keep_syntax.specs.Reading.{key_of, name_of, value_of, header_by, element_by, is_line_end, content_at}
use Rattle.keep_syntax.specs.Reading.{after_of, line_by, line_at, Lines, newline_of, after_line, ended_at, lines_of}
use Rattle.keep_syntax.specs.Reading.{has_bom, after_bom, read_document}
use Rattle.keep_syntax.proofs.LoopLaws.{bind_ok, ok_is, Shortens, loop_on, loop_ready, loop_err, repeat_holds, Same}
use Rattle.keep_syntax.proofs.LoopLaws.{same_refl, same_bind, same_cond, same_repeat}
use Rattle.keep_syntax.proofs.SpaceLaws.{text_of-append, space_none}
use Rattle.keep_syntax.proofs.WholeLaws.{value_depth_left, bad_stays}
use Rattle.keep_syntax.proofs.LineLaws.{at_end, at_newline, TookLine, line_takes, line_again}

-- ---- texts by parts

abbrev pub lines_leaves : List Ended → Line → List Written
lines_leaves ended last = flat_map ended_leaves ended ++ line_leaves last

abbrev pub lines_text : List Ended → Line → List ℕ
lines_text ended last = text_of (lines_leaves ended last)

pub ended_text : (e : Ended) (x : List ℕ)
    → text_of (ended_leaves e) ++ x ≡ text_of (line_leaves e.line) ++ (e.newline.text ++ x)
ended_text e x =
    ap (λ (t : List ℕ). t ++ x) (text_of-append (line_leaves e.line) (e.newline ∷ [])) ∙ simp (append_assoc, append-nil)

pub lines-cons : (e : Ended) (es : List Ended) (last : Line)
    → lines_text (e ∷ es) last ≡ text_of (ended_leaves e) ++ lines_text es last
lines-cons e es last =
    ap text_of (append_assoc (ended_leaves e) (flat_map ended_leaves es) (line_leaves last))
    ∙ text_of-append (ended_leaves e) (lines_leaves es last)

abbrev pub bom_text : Bool → List ℕ
bom_text b = text_of (bom_leaves b)

pub document_text : (s : Document) → text s ≡ bom_text s.bom ++ lines_text s.ended s.last
document_text s =
    let end = token leaf.End [] in
    text_of-append (bom_leaves s.bom) (flat_map ended_leaves s.ended ++ (line_leaves s.last ++ end))
    ∙ ap (λ (t : List ℕ). bom_text s.bom ++ t)
    (ap text_of (sym (append_assoc (flat_map ended_leaves s.ended) (line_leaves s.last) end))
    ∙ text_of-append (lines_leaves s.ended s.last) end ∙ append-nil (lines_text s.ended s.last))

-- ---- iterations

-- what an iteration does: the last line, or a line with its newline
pub data LineIteration (profile : Profile) (depth_left : ℕ) (prefix : List Ended) (text : List ℕ)
    (t : Iteration (List Ended) Lines) (rest : List ℕ) : Type 0 where
  at_last : (l : Line) → t ≡ ready (prefix, l) → rest ≡ [] → TookLine profile depth_left text l []
      → LineIteration profile depth_left prefix text t rest
  at_line : (e : Ended) → t ≡ continues (prefix ++ (e ∷ [])) → IsEnded profile e
      → content_depth e.line.content ≤ depth_left → text ≡ text_of (ended_leaves e) ++ rest → length rest < length text
      → LineIteration profile depth_left prefix text t rest

abbrev LinesIteration : Type 0
LinesIteration = Iteration (List Ended) Lines

newline_takes : (profile : Profile) (depth_left : ℕ) (prefix : List Ended) (whole : List ℕ) (l : Line) (text : List ℕ)
    (t : LinesIteration) (rest : List ℕ) → TookLine profile depth_left whole l text
    → newline_of prefix l text (gap_at text) ≡ Ok (t, rest) → LineIteration profile depth_left prefix whole t rest
newline_takes profile depth_left prefix whole l text t rest tl h =
    elim (gap_cases text) [
      | white r f ↦ absurd (let k = rw r at h in cc)
      | line n r f found ↦
          let e : Ended = record { line = l; newline = written leaf.Newline n text } in
          let same = ok_is (continues (prefix ++ (e ∷ [])), drop n text) (t, rest) (rw r at h) in
          let is : drop n text ≡ rest = ap (λ (x : LinesIteration × List ℕ). x.1) same in
          let spelled : whole ≡ text_of (ended_leaves e) ++ rest =
          tl.spelled
          ∙ ap (λ (x : List ℕ). text_of (line_leaves l) ++ x)
          (sym (take-append-drop n text) ∙ ap (λ (x : List ℕ). take n text ++ x) is) ∙ sym (ended_text e rest) in
          at_line e (sym (ap (λ (x : LinesIteration × List ℕ). x.0) same))
          (record { line = tl.valid; kind = refl; newline = found.leaf }) tl.shallow spelled
          (omega (
            arith,
            ap length is,
            length-drop n text,
            found.some,
            found.within,
            ap length tl.spelled,
            length-append (text_of (line_leaves l)) text,
          ))
      | comment n r f found stop ↦ absurd (let k = rw r at h in cc)
      | nothing r f ↦ absurd (let k = rw r at h in cc)
    ]

pub line_cases : (profile : Profile) (depth_left : ℕ) (prefix : List Ended) (text : List ℕ)
    (t : Iteration (List Ended) Lines) (rest : List ℕ) → ended_at profile depth_left prefix text ≡ Ok (t, rest)
    → LineIteration profile depth_left prefix text t rest
unfolding ended_at
line_cases profile depth_left prefix text t rest h =
    let (l, e1, e2) = bind_ok (line_at profile depth_left text) (λ l. after_line prefix l.0 l.1) (t, rest) h in
    by l.0 l.1 (line_takes profile depth_left text l.0 l.1 e1) e2
  where
    by : (l : Line) (more : List ℕ) → TookLine profile depth_left text l more → after_line prefix l more ≡ Ok (t, rest)
        → LineIteration profile depth_left prefix text t rest
    by l [] tl e =
        let same = ok_is (ready (prefix, l), []) (t, rest) e in
        at_last l (sym (ap (λ (x : LinesIteration × List ℕ). x.0) same))
        (sym (ap (λ (x : LinesIteration × List ℕ). x.1) same)) tl
    by l (c ∷ cs) tl e = newline_takes profile depth_left prefix text l (c ∷ cs) t rest tl e

abbrev iteration_on : List Ended → LinesIteration
iteration_on s = continues s

abbrev iteration_ready : Lines → LinesIteration
iteration_ready a = ready a

pub lines_shorten : (profile : Profile) (depth_left : ℕ) → Shortens (ended_at profile depth_left)
lines_shorten profile depth_left s text s' rest h =
    elim (line_cases profile depth_left s text (continues s') rest h) [
      | at_last l e r tl ↦ absurd (let k : iteration_on s' ≡ iteration_ready (s, l) = e in cc)
      | at_line e k valid le spelled lt ↦ lt
    ]

-- ---- what is read as lines is spelled so

pub record TookLines (profile : Profile) (depth_left : ℕ) (prefix : List Ended) (text : List ℕ) (ls : Lines)
    (rest : List ℕ) : Type 0 where
  pub back : List Ended
  pub grown : ls.0 ≡ prefix ++ back
  pub valid : AllByRecursion (IsEnded profile) back
  pub valid_last : IsLine profile ls.1
  pub shallow : lines_depth back ≤ depth_left
  pub shallow_last : content_depth ls.1.content ≤ depth_left
  pub spelled : text ≡ lines_text back ls.1

pub lines_take : (profile : Profile) (depth_left : ℕ) (prefix : List Ended) (text : List ℕ) (ls : Lines) (rest : List ℕ)
    → lines_of profile depth_left prefix text ≡ Ok (ls, rest) → TookLines profile depth_left prefix text ls rest
lines_take profile depth_left prefix text ls rest h =
    repeat_holds (ended_at profile depth_left) (TookLines profile depth_left) last on (suc (length text)) prefix text ls
    rest h
  where
    ready_is : (x y : Lines) → iteration_ready x ≡ iteration_ready y → x ≡ y
    ready_is x y e = cc

    on_is : (x y : List Ended) → iteration_on x ≡ iteration_on y → x ≡ y
    on_is x y e = cc

    last : (s : List Ended) (text : List ℕ) (ls : Lines) (rest : List ℕ)
        → ended_at profile depth_left s text ≡ Ok (ready ls, rest) → TookLines profile depth_left s text ls rest
    last s text ls rest e =
        elim (line_cases profile depth_left s text (ready ls) rest e) [
          | at_last l k r tl ↦
              subst (λ (x : Lines). TookLines profile depth_left s text x rest) (sym (ready_is ls (s, l) k))
              (record {
                back = [];
                grown = sym (append-nil s);
                valid = tt;
                valid_last = tl.valid;
                shallow = omega arith;
                shallow_last = tl.shallow;
                spelled = tl.spelled ∙ append-nil (text_of (line_leaves l));
              })
          | at_line e k valid le spelled lt ↦
              absurd (let f : iteration_ready ls ≡ iteration_on (s ++ (e ∷ [])) = k in cc)
        ]

    on : (s : List Ended) (text : List ℕ) (s' : List Ended) (text' : List ℕ) (ls : Lines) (rest : List ℕ)
        → ended_at profile depth_left s text ≡ Ok (continues s', text') → TookLines profile depth_left s' text' ls rest
        → TookLines profile depth_left s text ls rest
    on s text s' text' ls rest e t =
        elim (line_cases profile depth_left s text (continues s') text' e) [
          | at_last l k r tl ↦ absurd (let f : iteration_on s' ≡ iteration_ready (s, l) = k in cc)
          | at_line e k valid le spelled lt ↦ record {
            back = e ∷ t.back;
            grown = t.grown ∙ ap (λ (x : List Ended). x ++ t.back) (on_is s' (s ++ (e ∷ [])) k)
                ∙ append_assoc s (e ∷ []) t.back;
            valid = (valid, t.valid);
            valid_last = t.valid_last;
            shallow = omega (arith, le, t.shallow);
            shallow_last = t.shallow_last;
            spelled =
                spelled ∙ ap (λ (x : List ℕ). text_of (ended_leaves e) ++ x) t.spelled ∙ sym (lines-cons e t.back ls.1);
          }
        ]

-- ---- what is spelled so is read

pub after_again : (prefix : List Ended) (l : Line) (w : Written) (more : List ℕ) → w.leaf ≡ leaf.Newline
    → IsLeaf Strict leaf.Newline w.text
    → after_line prefix l (w.text ++ more) ≡ Ok (continues (prefix ++ (record { line = l; newline = w } ∷ [])), more)
after_again prefix l w more kind h = by w.text h refl
  where
    is_w : (t : List ℕ) → t ≡ w.text → record { leaf = leaf.Newline; text = t } ≡ w
    is_w t e =
        ap (λ (x : List ℕ). record { leaf = leaf.Newline; text = x }) e
        ∙ ap (λ (k : Leaf). record { leaf = k; text = w.text }) (sym kind)

    here : (c : ℕ) (cs : List ℕ) → (c ∷ cs) ≡ w.text → gap_at ((c ∷ cs) ++ more) ≡ Some (leaf.Newline, length (c ∷ cs))
        → after_line prefix l ((c ∷ cs) ++ more)
        ≡ Ok (continues (prefix ++ (record { line = l; newline = w } ∷ [])), more)
    here c cs e g =
        rw (
          g,
          take_at (c ∷ cs) more (length (c ∷ cs)) refl,
          drop_at (c ∷ cs) more (length (c ∷ cs)) refl,
          is_w (c ∷ cs) e,
        ) refl

    by : (t : List ℕ) → IsLeaf Strict leaf.Newline t → t ≡ w.text
        → after_line prefix l (w.text ++ more)
        ≡ Ok (continues (prefix ++ (record { line = l; newline = w } ∷ [])), more)
    by [] (inl k) e = absurd cc
    by [] (inr k) e = absurd cc
    by (c ∷ cs) k e =
        subst (λ (x : List ℕ).
        after_line prefix l (x ++ more) ≡ Ok (continues (prefix ++ (record { line = l; newline = w } ∷ [])), more)) e
        (here c cs e (newline_again (c ∷ cs) more k))

pub lines_again : (profile : Profile) (depth_left : ℕ) (ended : List Ended) (last : Line) (prefix : List Ended)
    → AllByRecursion (IsEnded profile) ended → IsLine profile last → lines_depth ended ≤ depth_left
    → content_depth last.content ≤ depth_left
    → lines_of profile depth_left prefix (lines_text ended last) ≡ Ok ((prefix ++ ended, last), [])
unfolding ended_at
lines_again profile depth_left [] last prefix h k le le' =
    let e : line_at profile depth_left (lines_text [] last) ≡ Ok (last, []) =
    ap (line_at profile depth_left) (sym (append-nil (text_of (line_leaves last))))
    ∙ line_again profile depth_left last [] k le' (at_end refl) in
    let iteration : ended_at profile depth_left prefix (lines_text [] last) ≡ Ok (ready (prefix, last), []) =
    rw e refl in
    loop_ready (ended_at profile depth_left) prefix (lines_text [] last) (prefix ++ [], last) []
    (iteration ∙ ap (λ (x : List Ended). Ok (ready (x, last), [])) (sym (append-nil prefix)))
lines_again profile depth_left (e ∷ es) last prefix h k le le' =
    let more = lines_text es last in
    let read : line_at profile depth_left (text_of (line_leaves e.line) ++ (e.newline.text ++ more))
    ≡ Ok (e.line, e.newline.text ++ more) =
    line_again profile depth_left e.line (e.newline.text ++ more) h.0.line (omega arith)
    (at_newline e.newline.text more h.0.newline refl) in
    let iteration : ended_at profile depth_left prefix (text_of (ended_leaves e) ++ more)
    ≡ Ok (continues (prefix ++ (e ∷ [])), more) =
    ap (λ (x : List ℕ). line_at profile depth_left x >>= λ l. after_line prefix l.0 l.1) (ended_text e more)
    ∙ rw read (after_again prefix e.line e.newline more h.0.kind h.0.newline) in
    ap (lines_of profile depth_left prefix) (lines-cons e es last)
    ∙ loop_on (ended_at profile depth_left) (lines_shorten profile depth_left) prefix (text_of (ended_leaves e) ++ more)
    (prefix ++ (e ∷ [])) more iteration
    ∙ lines_again profile depth_left es last (prefix ++ (e ∷ [])) h.1 k (omega arith) le'
    ∙ ap (λ (x : List Ended). Ok ((x, last), [])) (append_assoc prefix (e ∷ []) es)

-- ---- the byte order mark

pub bom_is : (text : List ℕ) → has_bom text ≡ true → text ≡ 0xEF ∷ 0xBB ∷ 0xBF ∷ drop 3 text
bom_is text h =
    let (prefix, three) = and_parts (first text == 0xEF && slice_index text 1 == 0xBB) (slice_index text 2 == 0xBF) h in
    let (one, two) = and_parts (first text == 0xEF) (slice_index text 1 == 0xBB) prefix in
    by text one two three
  where
    by : (text : List ℕ) → (first text == 0xEF) ≡ true → (slice_index text 1 == 0xBB) ≡ true
        → (slice_index text 2 == 0xBF) ≡ true → text ≡ 0xEF ∷ 0xBB ∷ 0xBF ∷ drop 3 text
    by [] one two three = absurd cc
    by (a ∷ []) one two three = absurd cc
    by (a ∷ b ∷ []) one two three = absurd cc
    by (a ∷ b ∷ c ∷ cs) one two three =
        ap (λ (x : ℕ). x ∷ b ∷ c ∷ cs) (eqb-true a 0xEF one) ∙ ap (λ (x : ℕ). 0xEF ∷ x ∷ c ∷ cs) (eqb-true b 0xBB two)
        ∙ ap (λ (x : ℕ). 0xEF ∷ 0xBB ∷ x ∷ cs) (eqb-true c 0xBF three)

pub bom_parts : (text : List ℕ) → text ≡ bom_text (has_bom text) ++ after_bom (has_bom text) text
bom_parts text = by (has_bom text) refl
  where
    by : (b : Bool) → has_bom text ≡ b → text ≡ bom_text b ++ after_bom b text
    by true e = bom_is text e
    by false e = refl

-- no line begins with the byte order mark
no_key : (profile : Profile) (text : List ℕ) → first text ≡ 0xEF → part_at profile text ≡ Err Bad
unfolding key_at
no_key profile text e =
    let a : is_bare (first text) ≡ false = rw e refl in
    let b : (first text == 0x22) ≡ false = rw e refl in
    let c : (first text == 0x27) ≡ false = rw e refl in
    rw (a, b, c) refl

bom_no_line : (profile : Profile) (depth_left : ℕ) (text : List ℕ) → first text ≡ 0xEF
    → line_at profile depth_left text ≡ Err Bad
unfolding line_at content_at name_of key_of
bom_no_line profile depth_left text e =
    let a : is_line_end (first text) ≡ false = rw e refl in
    let b : (first text == 0x5B) ≡ false = rw e refl in
    let c : is_ws (first text) ≡ false = rw e refl in
    rw (space_none text c, a, b, no_key profile text e) refl

pub bom_no_lines : (profile : Profile) (depth_left : ℕ) (text : List ℕ) → first text ≡ 0xEF
    → lines_of profile depth_left [] text ≡ Err Bad
unfolding ended_at
bom_no_lines profile depth_left text e =
    let iteration : ended_at profile depth_left [] text ≡ Err Bad = rw (bom_no_line profile depth_left text e) refl in
    loop_err (ended_at profile depth_left) [] text Bad iteration

lines_no_bom : (profile : Profile) (depth_left : ℕ) (text : List ℕ) (x : Lines × List ℕ)
    → lines_of profile depth_left [] text ≡ Ok x → has_bom text ≡ false
lines_no_bom profile depth_left text x h = by (tested (has_bom text))
  where
    clash : lines_of profile depth_left [] text ≡ Err Bad → has_bom text ≡ false
    clash k = absurd (let bad : Ok x ≡ Err Bad = sym h ∙ k in cc)

    by : (has_bom text ≡ true) ⊎ (has_bom text ≡ false) → has_bom text ≡ false
    by (inr e) = e
    by (inl e) = clash (bom_no_lines profile depth_left text (ap first (bom_is text e)))

-- ---- documents

-- What is read is a document with this text, within the limit.
pub document_found : (profile : Profile) (limit : ℕ) (bytes : List ℕ) (s : Document)
    → read_document profile limit bytes ≡ Ok s → Reads profile limit bytes s
unfolding read_document
document_found profile limit bytes s h =
    let b = has_bom bytes in
    let (l, e1, e2) =
    bind_ok (lines_of profile limit [] (after_bom b bytes)) (λ l. Ok (record { bom = b; ended = l.0.0; last = l.0.1 }))
    s h in
    let t = lines_take profile limit [] (after_bom b bytes) l.0 l.1 e1 in
    let made : Document = record { bom = b; ended = l.0.0; last = l.0.1 } in
    let is : t.back ≡ l.0.0 = sym t.grown in
    subst (λ (x : Document). Reads profile limit bytes x) (ok_is made s e2) (record {
      valid = record {
        ended = subst (λ (es : List Ended). AllByRecursion (IsEnded profile) es) is t.valid;
        last = t.valid_last;
      };
      spelled =
          bom_parts bytes
          ∙ ap (λ (x : List ℕ). bom_text b ++ x) (t.spelled ∙ ap (λ (es : List Ended). lines_text es l.0.1) is)
          ∙ sym (document_text made);
      shallow = omega (arith, subst (λ (es : List Ended). lines_depth es ≤ limit) is t.shallow, t.shallow_last);
    })

of_text : (profile : Profile) (limit : ℕ) (s : Document) → IsDocument profile s → depth s ≤ limit
    → read_document profile limit (text s) ≡ Ok s
unfolding read_document
of_text profile limit s h le = ap read (document_text s) ∙ by s.bom
  where
    read : List ℕ → Result Document Fault
    read t =
        lines_of profile limit [] (after_bom (has_bom t) t) >>= λ l.
        Ok (record { bom = has_bom t; ended = l.0.0; last = l.0.1 })

    again : lines_of profile limit [] (lines_text s.ended s.last) ≡ Ok ((s.ended, s.last), [])
    again = lines_again profile limit s.ended s.last [] h.ended h.last (omega arith) (omega arith)

    by : (b : Bool)
        → read (bom_text b ++ lines_text s.ended s.last) ≡ Ok (record { bom = b; ended = s.ended; last = s.last })
    by true = rw again refl
    by false = rw (lines_no_bom profile limit (lines_text s.ended s.last) ((s.ended, s.last), []) again, again) refl

-- A document within the limit is read.
pub document_read : (profile : Profile) (limit : ℕ) (bytes : List ℕ) (s : Document) → Reads profile limit bytes s
    → read_document profile limit bytes ≡ Ok s
document_read profile limit bytes s h =
    ap (read_document profile limit) h.spelled ∙ of_text profile limit s h.valid h.shallow

-- At most one document has a given text.
pub one_document : (profile : Profile) (s u : Document) → IsDocument profile s → IsDocument profile u → text s ≡ text u
    → s ≡ u
one_document profile s u h k e =
    let limit = max (depth s) (depth u) in
    ok_is s u (sym (of_text profile limit s h (omega arith)) ∙ ap (read_document profile limit) e
    ∙ of_text profile limit u k (omega arith))

-- ---- a larger limit

same_content : (profile : Profile) (a b : ℕ) (text : List ℕ) → a ≤ b
    → Same (content_at profile a text) (content_at profile b text)
unfolding content_at
same_content profile a b text le =
    same_cond (is_line_end (first text)) _ _ _ _ refl
    (same_cond (first text == 0x5B && slice_index text 1 == 0x5B) _ _ _ _
    (same_refl (element_by profile (space_at (drop 2 text))))
    (same_cond (first text == 0x5B) _ _ _ _ (same_refl (header_by profile (space_at (drop 1 text))))
    (same_bind (name_of profile text) (name_of profile text) _ _ (same_refl (name_of profile text))
    (λ n. same_bind (value_of profile a n.1) (value_of profile b n.1) _ _ (value_depth_left profile a b n.1 le)
    (λ v. refl)))))

same_line : (profile : Profile) (a b : ℕ) (text : List ℕ) → a ≤ b
    → Same (line_at profile a text) (line_at profile b text)
unfolding line_at
same_line profile a b text le =
    same_bind (content_at profile a (space_at text).1) (content_at profile b (space_at text).1) _ _
    (same_content profile a b (space_at text).1 le) (λ c. same_refl (line_by (space_at text).0 c.0 (after_of c.0 c.1)))

same_iteration : (profile : Profile) (a b : ℕ) → a ≤ b → (prefix : List Ended) (text : List ℕ)
    → Same (ended_at profile a prefix text) (ended_at profile b prefix text)
unfolding ended_at
same_iteration profile a b le prefix text =
    same_bind (line_at profile a text) (line_at profile b text) _ _ (same_line profile a b text le)
    (λ l. same_refl (after_line prefix l.0 l.1))

-- A larger limit reads the same, unless the smaller was passed.
pub document_depth_left : (profile : Profile) (a b : ℕ) (bytes : List ℕ) → a ≤ b
    → Same (read_document profile a bytes) (read_document profile b bytes)
unfolding read_document
document_depth_left profile a b bytes le =
    let t = after_bom (has_bom bytes) bytes in
    same_bind (lines_of profile a [] t) (lines_of profile b [] t) _ _
    (same_repeat (suc (length t)) (ended_at profile a) (ended_at profile b) (same_iteration profile a b le) [] t)
    (λ l. refl)

-- Where nothing fits, nothing fits at any depth.
pub document_bad : (profile : Profile) (limit : ℕ) (bytes : List ℕ) → read_document profile limit bytes ≡ Err Bad
    → (s : Document) → IsDocument profile s → bytes ≡ text s → ⊥
document_bad profile limit bytes bad s h e =
    let more = max limit (depth s) in
    bad_stays (read_document profile limit bytes) (read_document profile more bytes) s bad
    (document_depth_left profile limit more bytes (omega arith))
    (ap (read_document profile more) e ∙ of_text profile more s h (omega arith))
