-- A document whose text begins with the first line of another one, its newline among it, begins with that line.
--
-- Each of the two first lines is read as it is wherever a newline or the end comes after it (`one_line`), so they are
-- one. A text begins with a byte order mark or with a line, and no line begins with that mark.
--
-- Theorem: `same_first_line`.
use Rattle.std.proofs.Common.{◌≡◌, ℕ, max, Bool, true, false, List, [], ◌∷◌, ◌++◌, Result, Ok, Err, refl, sym, ap}
use Rattle.std.proofs.Common.{ap₂, ◌∙◌, inl, inr, arith}
use Rattle.std.specs.List.{AllByRecursion}
use Rattle.std.proofs.lemmas.List.{append-nil, append_cancel_left}
use Rattle.keep_types.specs.declared.leaf.Profile.{Profile}
use Rattle.keep_types.specs.declared.leaf.Profile.TheVariants.{Strict}
use Rattle.keep_types.specs.declared.leaf.Leaf.{Leaf}
use Rattle.keep_types.specs.declared.leaf.Leaf.TheVariants as leaf
use Rattle.keep_token.specs.Leaves.{IsLeaf}
use Rattle.keep_token.specs.Scanning.{first}
use Rattle.keep_syntax.specs.Tree.{Written, Line, Ended, Document, text_of, line_leaves, ended_leaves, text}
use Rattle.keep_syntax.specs.Tree.{content_depth, lines_depth}
use Rattle.keep_syntax.specs.Grammar.{IsLine, IsEnded, IsDocument}
use Rattle.keep_syntax.specs.Reading.{line_at, lines_of, Bad, Fault}
use Rattle.keep_syntax.specs.WholeLines.{empty_line}
use Rattle.keep_edit_spec.proofs.Remove.RemoveValid.{valid_empty}
use Rattle.keep_syntax.proofs.LineLaws.{LineEnd, at_end, at_newline, line_again}
use Rattle.keep_syntax.proofs.DocumentLaws.{lines_text, ended_text, lines-cons, bom_text, document_text}
use Rattle.keep_syntax.proofs.DocumentLaws.{bom_no_lines, lines_again}

-- ---- lines

read_once : (r : Result (Line × List ℕ) Fault) (l m : Line) (x y : List ℕ) → r ≡ Ok (l, x) → r ≡ Ok (m, y)
    → (l ≡ m) × (x ≡ y)
read_once r l m x y one other =
    let both : (l, x) ≡ (m, y) = (let e : Ok (l, x) ≡ Ok (m, y) = sym one ∙ other in cc) in
    (ap (λ (p : Line × List ℕ). p.0) both, ap (λ (p : Line × List ℕ). p.1) both)

-- what is read is no fault
read_well : {A : Type 0} (r : Result A Fault) (a : A) → r ≡ Ok a → r ≡ Err Bad → ⊥
read_well r a one other = absurd (let e : Ok a ≡ Err Bad = sym one ∙ other in cc)

-- a line is the only one that is read from its text, before a newline or the end
one_line : (profile : Profile) (l m : Line) (x y : List ℕ) → IsLine profile l → IsLine profile m → LineEnd x → LineEnd y
    → text_of (line_leaves l) ++ x ≡ text_of (line_leaves m) ++ y → (l ≡ m) × (x ≡ y)
one_line profile l m x y hl hm ex ey same =
    let limit = max (content_depth l.content) (content_depth m.content) in
    read_once (line_at profile limit (text_of (line_leaves l) ++ x)) l m x y
    (line_again profile limit l x hl (omega arith) ex)
    (ap (line_at profile limit) same ∙ line_again profile limit m y hm (omega arith) ey)

-- and so is a newline
one_newline : (v w : Written) (x y : List ℕ) → v.leaf ≡ leaf.Newline → w.leaf ≡ leaf.Newline
    → IsLeaf Strict leaf.Newline v.text → IsLeaf Strict leaf.Newline w.text → v.text ++ x ≡ w.text ++ y → v ≡ w
one_newline v w x y kind other a b same = ap₂ (λ (l : Leaf) (t : List ℕ). record { leaf = l; text = t })
    (kind ∙ sym other) (by a b)
  where
    by : IsLeaf Strict leaf.Newline v.text → IsLeaf Strict leaf.Newline w.text → v.text ≡ w.text
    by (inl a) (inl b) = a ∙ sym b
    by (inr a) (inr b) = a ∙ sym b
    by (inl a) (inr b) =
        absurd (let both : 0x0A ∷ x ≡ 0x0D ∷ 0x0A ∷ y = sym (ap (λ t. t ++ x) a) ∙ same ∙ ap (λ t. t ++ y) b in cc)
    by (inr a) (inl b) =
        absurd (let both : 0x0D ∷ 0x0A ∷ x ≡ 0x0A ∷ y = sym (ap (λ t. t ++ x) a) ∙ same ∙ ap (λ t. t ++ y) b in cc)

newline_some : (w : Written) (rest : List ℕ) → IsLeaf Strict leaf.Newline w.text → [] ≡ w.text ++ rest → ⊥
newline_some w rest (inl e) h = let both : [] ≡ 0x0A ∷ rest = h ∙ ap (λ t. t ++ rest) e in absurd cc
newline_some w rest (inr e) h = let both : [] ≡ 0x0D ∷ 0x0A ∷ rest = h ∙ ap (λ t. t ++ rest) e in absurd cc

first_of : (profile : Profile) (e : Ended) (rest : List ℕ) (ended : List Ended) (last : Line) → IsEnded profile e
    → AllByRecursion (IsEnded profile) ended → IsLine profile last
    → lines_text ended last ≡ text_of (ended_leaves e) ++ rest → (more : List Ended) × (ended ≡ e ∷ more)
first_of profile e rest [] last h k l same =
    let both =
    one_line profile last e.line [] (e.newline.text ++ rest) l h.line (at_end refl)
    (at_newline e.newline.text rest h.newline refl)
    (append-nil (text_of (line_leaves last)) ∙ same ∙ ended_text e rest) in
    absurd (newline_some e.newline rest h.newline both.1)
first_of profile e rest (f ∷ fs) last h k l same =
    let more = lines_text fs last in
    let (line, ends) =
    one_line profile f.line e.line (f.newline.text ++ more) (e.newline.text ++ rest) k.0.line h.line
    (at_newline f.newline.text more k.0.newline refl) (at_newline e.newline.text rest h.newline refl)
    (sym (ended_text f more) ∙ sym (lines-cons f fs last) ∙ same ∙ ended_text e rest) in
    let newline = one_newline f.newline e.newline more rest k.0.kind h.kind k.0.newline h.newline ends in
    (fs, ap (λ (x : Ended). x ∷ fs) (ap₂ (λ (m : Line) (w : Written). record { line = m; newline = w }) line newline))

-- ---- documents

first_alike : (a n x y : List ℕ) → IsLeaf Strict leaf.Newline n → first (a ++ (n ++ x)) ≡ first (a ++ (n ++ y))
first_alike (c ∷ a) n x y h = refl
first_alike [] n x y (inl e) = ap (λ t. first (t ++ x)) e ∙ sym (ap (λ t. first (t ++ y)) e)
first_alike [] n x y (inr e) = ap (λ t. first (t ++ x)) e ∙ sym (ap (λ t. first (t ++ y)) e)

-- the lines of a document begin with no byte order mark
no_mark : (profile : Profile) (ended : List Ended) (last : Line) → AllByRecursion (IsEnded profile) ended
    → IsLine profile last → first (lines_text ended last) ≡ 0xEF → ⊥
no_mark profile ended last h k marked =
    let limit = max (lines_depth ended) (content_depth last.content) in
    read_well (lines_of profile limit [] (lines_text ended last)) ((ended, last), [])
    (lines_again profile limit ended last [] h k (omega arith) (omega arith))
    (bom_no_lines profile limit (lines_text ended last) marked)

no_mark_first : (profile : Profile) (e : Ended) (rest more : List ℕ) → IsEnded profile e
    → text_of (ended_leaves e) ++ rest ≡ bom_text true ++ more → ⊥
no_mark_first profile e rest more h same =
    no_mark profile (e ∷ []) empty_line (h, tt) (valid_empty profile)
    (ap first (lines-cons e [] empty_line ∙ ended_text e []) ∙
    first_alike (text_of (line_leaves e.line)) e.newline.text [] rest h.newline
    ∙ ap first (sym (ended_text e rest) ∙ same))

pub same_first_line : (profile : Profile) (mark : Bool) (e : Ended) (rest : List ℕ) (u : Document) → IsEnded profile e
    → IsDocument profile u → text u ≡ bom_text mark ++ (text_of (ended_leaves e) ++ rest)
    → (u.bom ≡ mark) × ((more : List Ended) × (u.ended ≡ e ∷ more))
same_first_line profile mark e rest u h k same = by mark u.bom (sym (document_text u) ∙ same)
  where
    lines : lines_text u.ended u.last ≡ text_of (ended_leaves e) ++ rest → (more : List Ended) × (u.ended ≡ e ∷ more)
    lines = first_of profile e rest u.ended u.last h k.ended k.last

    by : (m b : Bool) → bom_text b ++ lines_text u.ended u.last ≡ bom_text m ++ (text_of (ended_leaves e) ++ rest)
        → (b ≡ m) × ((more : List Ended) × (u.ended ≡ e ∷ more))
    by false false now = (refl, lines now)
    by true true now = (refl, lines (append_cancel_left (bom_text true) _ _ now))
    by false true now = absurd (no_mark_first profile e rest (lines_text u.ended u.last) h (sym now))
    by true false now = absurd (no_mark profile u.ended u.last k.ended k.last (ap first now))
