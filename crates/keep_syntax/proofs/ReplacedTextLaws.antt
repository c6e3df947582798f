-- A document with lines replaced has the text with these bytes replaced, is one of the grammar, and is no deeper than
-- both; and the syntax of a document of the grammar is that of its text.
--
-- As for `RereadLaws`, the document is split into the lines before, the replaced ones, and those after, and there are
-- two cases: lines follow or none do. The text is the join of the three texts, so replacing the middle one replaces
-- those bytes (`replaced_text`). Lines of a valid document and lines that were read are valid, so those that are put
-- together are (`replaced_valid`), and they are no deeper (`replaced_shallow`). Tokens begin characters, so each stored
-- place is one where the text may be cut (`starts_cut`).
--
-- Theorems: `lines_are_replaced`: the new document; `reread_text`: its syntax is that of the new text.
use Rattle.std.proofs.Common.{◌≡◌, ℕ, ◌+◌, ◌≤◌, Bool, true, false, List, [], ◌∷◌, ◌++◌, length, take, drop, slice_index}
use Rattle.std.proofs.Common.{refl, sym, ap, subst, ◌∙◌, arith, add-one, append_assoc, ltb-true, ltb-false}
use Rattle.std.proofs.Common.{IsCharBoundary}
use Rattle.std.specs.Prelude.{ltb, if◌then◌else◌}
use Rattle.std.specs.List.{flat_map, AllByRecursion}
use Rattle.std.proofs.lemmas.List.{append-nil, length-append, drop_all}
use Rattle.std.proofs.lemmas.Str.{IsCharBoundary-end}
use Rattle.std.proofs.lemmas.Grind.{flat_map-append}
use Rattle.std.proofs.Math.Seq.{take-append_seam, drop-append_seam}
use Rattle.keep_types.specs.declared.leaf.Profile.{Profile}
use Rattle.keep_types.specs.declared.syntax.Span.{Span}
use Rattle.keep_syntax.specs.declared.syntax.Syntax.{Syntax}
use Rattle.keep_syntax.specs.Tree.{Written, Line, Ended, Document, line_leaves, ended_leaves, bom_leaves, text_of, text}
use Rattle.keep_syntax.specs.Tree.{lines_depth, content_depth, depth}
use Rattle.keep_syntax.specs.Grammar.{IsLine, IsEnded, IsDocument}
use Rattle.keep_syntax_store.specs.Flat.{Flat, flat}
use Rattle.keep_syntax.specs.Growth.{starts, add_at}
use Rattle.keep_syntax.specs.Cut.{start_in}
use Rattle.keep_syntax.specs.WholeLines.{begin, replaced}
use Rattle.keep_syntax.specs.Contract.{IsSyntaxOf, IsTextOf, CanReplace, put_at}
use Rattle.keep_syntax.specs.Laws.{LinesAreReplaced}
use Rattle.keep_syntax.proofs.SpaceLaws.{text_of-append}
use Rattle.keep_syntax.proofs.CountLaws.{BeginsChar, AreSome, inner_leaves, document_some}
use Rattle.keep_syntax.proofs.CutLaws.{start_holds, start_forward}
use Rattle.keep_syntax.proofs.ReadLaws.{inner_text}
use Rattle.keep_syntax_store.proofs.Shared.{all_append, all_back, all_prefix, if_false, if_true}
use Rattle.keep_syntax.proofs.SplitLaws.{Split}
use Rattle.keep_syntax.proofs.RereadLaws.{lines_of, middle_lines, end_lines, empty_last}

-- ---- texts

abbrev ended_text : List Ended → List ℕ
ended_text es = text_of (flat_map ended_leaves es)

abbrev line_text : Line → List ℕ
line_text l = text_of (line_leaves l)

ended_join : (xs ys : List Ended) → ended_text (xs ++ ys) ≡ ended_text xs ++ ended_text ys
ended_join xs ys =
    ap text_of (flat_map-append ended_leaves xs ys)
    ∙ text_of-append (flat_map ended_leaves xs) (flat_map ended_leaves ys)

text_parts : (d : Document) → text d ≡ text_of (bom_leaves d.bom) ++ (ended_text d.ended ++ line_text d.last)
text_parts d =
    inner_text d ∙ text_of-append (bom_leaves d.bom) (flat_map ended_leaves d.ended ++ line_leaves d.last)
    ∙ ap (λ t. text_of (bom_leaves d.bom) ++ t) (text_of-append (flat_map ended_leaves d.ended) (line_leaves d.last))

-- the text of the new lines
bytes_text : {profile : Profile} {limit : ℕ} {d : Document} {whole : Span} {bytes : List ℕ} {m : Document}
    → CanReplace profile limit d whole bytes m → bytes ≡ ended_text m.ended ++ line_text m.last
bytes_text {m = m} h =
    h.reads.spelled ∙ text_parts m
    ∙ ap (λ (b : Bool). text_of (bom_leaves b) ++ (ended_text m.ended ++ line_text m.last)) h.bom

put_text : (sp : Span) (a b c new bytes : List ℕ) → bytes ≡ a ++ (b ++ c) → sp.start ≡ length a
    → sp.end ≡ length a + length b → put_at sp new bytes ≡ a ++ (new ++ c)
put_text sp a b c new bytes e start end =
    ap (λ t. take sp.start t ++ (new ++ drop sp.end t)) e
    ∙ ap (λ n. take n (a ++ (b ++ c)) ++ (new ++ drop sp.end (a ++ (b ++ c)))) start
    ∙ ap (λ t. t ++ (new ++ drop sp.end (a ++ (b ++ c)))) (take-append_seam a (b ++ c))
    ∙ ap (λ t. a ++ (new ++ drop sp.end t)) (sym (append_assoc a b c))
    ∙ ap (λ n. a ++ (new ++ drop n ((a ++ b) ++ c))) (end ∙ sym (length-append a b))
    ∙ ap (λ t. a ++ (new ++ t)) (drop-append_seam (a ++ b) c)

-- A document with lines replaced has the text with these bytes replaced.
pub replaced_text : {profile : Profile} {limit : ℕ} {d : Document} {whole : Span} {bytes : List ℕ} {m : Document}
    (h : CanReplace profile limit d whole bytes m) → put_at whole bytes (text d) ≡ text (replaced d whole m)
replaced_text {profile} {limit} {d} {whole} {bytes} {m} h =
    by (ltb whole.end (length (text d))) refl
  where
    s : Split (length (text d)) (begin d) d.ended whole.start whole.end
    s = lines_of h

    r : Document
    r = replaced d whole m

    bom : List ℕ
    bom = text_of (bom_leaves d.bom)

    before : List ℕ
    before = bom ++ ended_text s.prefix

    gone : List ℕ
    gone = ended_text s.gone

    after : List ℕ
    after = ended_text s.back

    long : length before ≡ whole.start
    long = omega (arith, length-append bom (ended_text s.prefix), s.start_is)

    spelled : (es : List Ended) (l : Line) → r.ended ≡ es → r.last ≡ l → text r ≡ bom ++ (ended_text es ++ line_text l)
    spelled es l e k =
        text_parts r ∙ ap (λ (xs : List Ended). bom ++ (ended_text xs ++ line_text r.last)) e
        ∙ ap (λ (x : Line). bom ++ (ended_text es ++ line_text x)) k

    old : text d ≡ before ++ (gone ++ (after ++ line_text d.last))
    old =
        text_parts d
        ∙ ap (λ t. bom ++ (t ++ line_text d.last))
        (ap ended_text s.all ∙ ended_join s.prefix (s.gone ++ s.back)
        ∙ ap (λ t. ended_text s.prefix ++ t) (ended_join s.gone s.back))
        ∙ ap (λ t. bom ++ t) (append_assoc (ended_text s.prefix) (gone ++ after) (line_text d.last)
        ∙ ap (λ t. ended_text s.prefix ++ t) (append_assoc gone after (line_text d.last)))
        ∙ sym (append_assoc bom (ended_text s.prefix) (gone ++ (after ++ line_text d.last)))

    by : (b : Bool) → ltb whole.end (length (text d)) ≡ b → put_at whole bytes (text d) ≡ text r
    by true t =
        let more = ltb-true whole.end (length (text d)) t in
        let new =
        bytes_text h ∙ ap (λ (l : Line). ended_text m.ended ++ line_text l) (empty_last h more)
        ∙ append-nil (ended_text m.ended) in
        put_text whole before gone (after ++ line_text d.last) bytes (text d) old (sym long)
        (omega (arith, long, s.end_is more))
        ∙ ap (λ x. before ++ (x ++ (after ++ line_text d.last))) new
        ∙ sym (spelled (s.prefix ++ (m.ended ++ s.back)) d.last (middle_lines h)
        (if_true (ltb whole.end (length (text d))) d.last m.last t)
        ∙ ap (λ x. bom ++ (x ++ line_text d.last))
        (ended_join s.prefix (m.ended ++ s.back) ∙ ap (λ x. ended_text s.prefix ++ x) (ended_join m.ended s.back))
        ∙ ap (λ x. bom ++ x) (append_assoc (ended_text s.prefix) (ended_text m.ended ++ after) (line_text d.last)
        ∙ ap (λ x. ended_text s.prefix ++ x) (append_assoc (ended_text m.ended) after (line_text d.last)))
        ∙ sym (append_assoc bom (ended_text s.prefix) (ended_text m.ended ++ (after ++ line_text d.last))))
    by false t =
        let past : length (text d) ≤ whole.end = ltb-false whole.end (length (text d)) t in
        ap (λ x. x ++ (bytes ++ drop whole.end (text d)))
        (ap (λ x. take whole.start x) old
        ∙ ap (λ n. take n (before ++ (gone ++ (after ++ line_text d.last)))) (sym long)
        ∙ take-append_seam before (gone ++ (after ++ line_text d.last)))
        ∙ ap (λ x. before ++ (bytes ++ x)) (drop_all whole.end (text d) past)
        ∙ ap (λ x. before ++ x) (append-nil bytes ∙ bytes_text h)
        ∙ sym (spelled (s.prefix ++ m.ended) m.last (end_lines h past)
        (if_false (ltb whole.end (length (text d))) d.last m.last t)
        ∙ ap (λ x. bom ++ (x ++ line_text m.last)) (ended_join s.prefix m.ended)
        ∙ ap (λ x. bom ++ x) (append_assoc (ended_text s.prefix) (ended_text m.ended) (line_text m.last))
        ∙ sym (append_assoc bom (ended_text s.prefix) (ended_text m.ended ++ line_text m.last)))

-- ---- the grammar

either : (P : Line → Type 0) (b : Bool) (x y : Line) → P x → P y → P (if b then x else y)
either P true x y h k = h
either P false x y h k = k

pub replaced_valid : {profile : Profile} {limit : ℕ} {d : Document} {whole : Span} {bytes : List ℕ} {m : Document}
    → CanReplace profile limit d whole bytes m → IsDocument profile (replaced d whole m)
replaced_valid {profile} {limit} {d} {whole} {bytes} {m} h =
    let s = lines_of h in
    let all = subst (λ (es : List Ended). AllByRecursion (IsEnded profile) es) s.all h.valid.ended in
    let back = all_back (IsEnded profile) s.gone s.back (all_back (IsEnded profile) s.prefix (s.gone ++ s.back) all) in
    record {
      ended = subst (λ (es : List Ended). AllByRecursion (IsEnded profile) es) (sym (middle_lines h))
          (all_append (IsEnded profile) s.prefix (m.ended ++ s.back)
          (all_prefix (IsEnded profile) s.prefix (s.gone ++ s.back) all)
          (all_append (IsEnded profile) m.ended s.back h.reads.valid.ended back));
      last = either (IsLine profile) (ltb whole.end (length (text d))) d.last m.last h.valid.last h.reads.valid.last;
    }

depth_prefix : (n : ℕ) (xs ys : List Ended) → lines_depth (xs ++ ys) ≤ n → lines_depth xs ≤ n
depth_prefix n [] ys h = omega arith
depth_prefix n (x ∷ xs) ys h =
    let k : lines_depth (xs ++ ys) ≤ n = omega (arith, h) in
    omega (arith, h, depth_prefix n xs ys k)

depth_back : (n : ℕ) (xs ys : List Ended) → lines_depth (xs ++ ys) ≤ n → lines_depth ys ≤ n
depth_back n [] ys h = h
depth_back n (x ∷ xs) ys h = depth_back n xs ys (omega (arith, h))

depth_join : (n : ℕ) (xs ys : List Ended) → lines_depth xs ≤ n → lines_depth ys ≤ n → lines_depth (xs ++ ys) ≤ n
depth_join n [] ys h k = k
depth_join n (x ∷ xs) ys h k = let rest = depth_join n xs ys (omega (arith, h)) k in omega (arith, h, rest)

replaced_shallow : {profile : Profile} {limit : ℕ} {d : Document} {whole : Span} {bytes : List ℕ} {m : Document}
    → CanReplace profile limit d whole bytes m → depth d ≤ limit → depth (replaced d whole m) ≤ limit
replaced_shallow {profile} {limit} {d} {whole} {bytes} {m} h low =
    let s = lines_of h in
    let all : lines_depth (s.prefix ++ (s.gone ++ s.back)) ≤ limit = omega (arith, low, ap lines_depth s.all) in
    let back = depth_back limit s.gone s.back (depth_back limit s.prefix (s.gone ++ s.back) all) in
    let new : lines_depth m.ended ≤ limit = omega (arith, h.reads.shallow) in
    let ended =
    depth_join limit s.prefix (m.ended ++ s.back) (depth_prefix limit s.prefix (s.gone ++ s.back) all)
    (depth_join limit m.ended s.back new back) in
    let last =
    either (λ (l : Line). content_depth l.content ≤ limit) (ltb whole.end (length (text d))) d.last m.last
    (omega (arith, low)) (omega (arith, h.reads.shallow)) in
    omega (arith, ended, last, ap lines_depth (middle_lines h))

-- Lines replaced in a document give a document.
pub lines_are_replaced : LinesAreReplaced
lines_are_replaced profile limit d whole lines m h low =
    record { valid = replaced_valid h; spelled = replaced_text h; shallow = replaced_shallow h low }

-- ---- where a text may be cut

seam_byte : (prefix : List ℕ) (c : ℕ) (rest : List ℕ) → slice_index (prefix ++ (c ∷ rest)) (length prefix) ≡ c
seam_byte [] c rest = refl
seam_byte (x ∷ xs) c rest = seam_byte xs c rest

cut_here : (bytes prefix : List ℕ) (w : Written) (rest : List ℕ) (at : ℕ) → at ≡ length prefix
    → bytes ≡ prefix ++ (w.text ++ rest) → BeginsChar w → IsCharBoundary bytes at
cut_here bytes prefix w rest at here e h =
    by w.text e h
  where
    by : (t : List ℕ) → bytes ≡ prefix ++ (t ++ rest) → BeginsChar (record { leaf = w.leaf; text = t })
        → IsCharBoundary bytes at
    by [] e h = absurd (omega (arith, h.0))
    by (c ∷ cs) e h =
        let is : slice_index bytes at ≡ c =
        ap (slice_index bytes) here ∙ ap (λ t. slice_index t (length prefix)) e ∙ seam_byte prefix c (cs ++ rest) in (
          omega (arith, here, ap length e, length-append prefix ((c ∷ cs) ++ rest)),
          λ within high. let low : 192 ≤ c = h.1 (omega (arith, high, is)) in omega (arith, low, is),
        )

starts_cut : (bytes prefix : List ℕ) (ws : List Written) (at : ℕ) → at ≡ length prefix → bytes ≡ prefix ++ text_of ws
    → AreSome ws → AllByRecursion (IsCharBoundary bytes) (starts at ws)
starts_cut bytes prefix [] at here e h = tt
starts_cut bytes prefix (w ∷ ws) at here e h = (
  cut_here bytes prefix w (text_of ws) at here e h.0,
  starts_cut bytes (prefix ++ w.text) ws (at + length w.text) (omega (arith, here, length-append prefix w.text))
      (e ∙ sym (append_assoc prefix w.text (text_of ws))) h.1,
)

-- The syntax of a document of the grammar is that of its text.
pub syntax_text : (profile : Profile) (s : Syntax) (d : Document) → IsDocument profile d → IsSyntaxOf s d
    → IsTextOf s (text d)
unfolding add_at
syntax_text profile s d valid is =
    let inner = inner_leaves d in
    let bytes = text d in
    let begins : (flat s.parts).starts ≡ starts 0 inner = ap (λ (f : Flat). f.starts) is.stored in
    let cuts = starts_cut bytes [] inner 0 refl (inner_text d) (document_some profile d valid) in
    record {
      document = d;
      spelled = refl;
      is = is;
      cuts = λ n.
          subst (λ (ss : List ℕ). IsCharBoundary bytes (start_in bytes ss n)) (sym begins)
          (start_holds (IsCharBoundary bytes) bytes (starts 0 inner) cuts (IsCharBoundary-end bytes) n);
      forward = λ n. subst (λ (ss : List ℕ). start_in bytes ss n ≤ start_in bytes ss (n + 1)) (sym begins)
          (subst (λ (m : ℕ). start_in bytes (starts 0 inner) n ≤ start_in bytes (starts 0 inner) m) (sym (add-one n))
          (start_forward bytes 0 inner (omega (arith, ap length (inner_text d))) n));
    }

pub reread_text : {profile : Profile} {limit : ℕ} {d : Document} {whole : Span} {bytes : List ℕ} {m : Document}
    (s : Syntax) → CanReplace profile limit d whole bytes m → IsSyntaxOf s (replaced d whole m)
    → IsTextOf s (put_at whole bytes (text d))
reread_text {profile} {limit} {d} {whole} {bytes} {m} s h is =
    subst (λ (t : List ℕ). IsTextOf s t) (sym (replaced_text h))
    (syntax_text profile s (replaced d whole m) (replaced_valid h) is)
