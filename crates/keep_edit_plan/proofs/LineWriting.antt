-- How lines are written: where the first begins, whether one lacks its newline, where a body or a line ends, and what
-- is around a keyval. The lemmas follow the functions of `src/insert/lines.rt`.
--
-- A text begins with a byte order mark exactly if the tree has one, since else its first byte is ASCII. What is pushed
-- piece by piece is one text with the brackets moved (`line_pushed`, `section_pushed`).
--
-- Theorems: `line_pushed` and `section_pushed`: what is written; `header_ends`, `root_ends` and `line_ends`: where it
-- is written.
use Rattle.std.proofs.Common.{◌≡◌, ℕ, zero, suc, ◌-◌, ◌<◌, ◌≤◌, ◌==◌, Bool, true, false, cond, not, ◌&&◌, List, [], ◌∷◌}
use Rattle.std.proofs.Common.{◌++◌, length, take, drop, slice_get, slice_index_or, refl, sym, ap, ◌∙◌, append_assoc}
use Rattle.std.proofs.Common.{arith, Option, Some, None}
use Rattle.std.specs.Prelude.{codes, nat_lt}
use Rattle.std.specs.List.{flat_map, starts_with}
use Rattle.std.specs.Cmp.Lexicographic.{pointwise}
use Rattle.std.specs.Option.{option_map, option_and_then}
use Rattle.std.proofs.lemmas.Bool.Decides.{nat_tests}
use Rattle.std.proofs.lemmas.List.{append-nil}
use Rattle.std.proofs.lemmas.Option.{slice_get_within}
use Rattle.keep_types.specs.declared.leaf.Leaf.TheVariants as leaf
use Rattle.keep_token.specs.Pieces.{first}
use Rattle.keep_types.specs.declared.syntax.Owner.{Owner}
use Rattle.keep_types.specs.declared.syntax.Owner.TheVariants as owner
use Rattle.keep_types.specs.declared.syntax.Statement.{Statement}
use Rattle.keep_types.specs.declared.syntax.ValueInfo.{ValueInfo}
use Rattle.keep_syntax.specs.declared.syntax.Syntax.{Syntax}
use Rattle.keep_syntax.specs.Contract.{statements_of, values_of}
use Rattle.keep_syntax.specs.Tree.{Written, Value, Document, key_leaves, bom_leaves, ended_leaves, line_leaves, text_of}
use Rattle.keep_syntax.specs.Tree.{text}
use Rattle.keep_syntax.specs.Tree.{token as written}
use Rattle.keep_syntax.specs.Numbered as syntax
use Rattle.keep_path.specs.NodeInfos.{NodeInfos}
use Rattle.keep_path.specs.Path.{Part}
use Rattle.keep_edit_spec.specs.Edits.{key_with, new_header}
use Rattle.keep_edit_spec.specs.Look.{keys_in}
use Rattle.keep_edit_spec.specs.Insertion.{is_open, keyed_text, missing_newline, section_end}
use Rattle.keep_edit_spec.specs.Lines.{content_text, newline_of}
use Rattle.keep_edit_spec.specs.Removal.{body_end}
use Rattle.keep_edit_spec.proofs.Shared.{is_high, lines_low, text_of-append}
use Rattle.keep_edit_plan.specs.Inserting.{line_end_of, lines_start, new_line_at}
use Rattle.keep_edit_plan.specs.PutLines.{body_end_of, keyval_end_of, new_section_at}
use Rattle.keep_edit_plan.specs.Reading.{ProfiledText, IsTextOfTree, Holds}
use Rattle.keep_edit_plan.proofs.AnswerLaws.{tree_is}
use Rattle.keep_edit_plan.specs.Writing.{keys_between, keys_text}
use Rattle.keep_edit_plan.proofs.WritingLaws.{keys_as_written}
use Rattle.keep_edit_plan.proofs.RemoveSteps.{from_here}

-- ---- where the first line begins

abbrev end_leaf : List Written
end_leaf = written leaf.End []

abbrev mark : List ℕ
mark = 0xEF ∷ 0xBB ∷ 0xBF ∷ []

not_mark : (c : ℕ) → is_high c ≡ false → (0xEF == c) ≡ false
not_mark c h = grind (arith, nat_tests)

starts_not : (t : List ℕ) → is_high (first t) ≡ false → starts_with (λ a b. a == b) t mark ≡ false
starts_not [] h = refl
starts_not (c ∷ t) h = ap (λ (b : Bool). b && pointwise (λ a b. a == b) (0xBB ∷ 0xBF ∷ []) (take 2 t)) (not_mark c h)

starts_so : (t : List ℕ) → starts_with (λ a b. a == b) (0xEF ∷ 0xBB ∷ 0xBF ∷ t) mark ≡ true
starts_so [] = refl
starts_so (c ∷ t) = refl

marked_by : (s : Document) (b : Bool) → s.bom ≡ b → is_high (first (drop (lines_start s) (text s))) ≡ false
    → starts_with (λ a b. a == b) (text s) mark ≡ b
marked_by s true e low =
    let rest : List ℕ = text_of (flat_map ended_leaves s.ended ++ (line_leaves s.last ++ end_leaf)) in
    let whole : text s ≡ 0xEF ∷ 0xBB ∷ 0xBF ∷ rest =
    ap (λ (b : Bool). text_of (bom_leaves b ++ (flat_map ended_leaves s.ended ++ (line_leaves s.last ++ end_leaf))))
    e in
    ap (λ (t : List ℕ). starts_with (λ a b. a == b) t mark) whole ∙ starts_so rest
marked_by s false e low =
    let at : lines_start s ≡ 0 = ap (λ (b : Bool). syntax.width (bom_leaves b)) e in
    starts_not (text s) (ap (λ (t : List ℕ). is_high (first t)) (sym (drop_none (text s)))
    ∙ ap (λ (n : ℕ). is_high (first (drop n (text s)))) (sym at) ∙ low)
  where
    drop_none : (l : List ℕ) → drop 0 l ≡ l
    drop_none [] = refl
    drop_none (x ∷ l) = refl

pub start_is : (d : ProfiledText) (s : Document) (bytes : List ℕ) (b c : Bool) → IsTextOfTree d s → bytes ≡ d.text
    → b ≡ starts_with (λ a b. a == b) bytes mark → b ≡ c → cond c 3 0 ≡ lines_start s
start_is d s bytes b c read same is e =
    let marked : c ≡ s.bom =
    sym e ∙ is ∙ ap (λ (t : List ℕ). starts_with (λ a b. a == b) t mark) (same ∙ read.reads.spelled)
    ∙ marked_by s s.bom refl (lines_low d.profile s read.reads.valid) in
    by c s.bom marked
  where
    by : (c d : Bool) → c ≡ d → cond c 3 0 ≡ syntax.width (bom_leaves d)
    by true true e = refl
    by false false e = refl
    by true false e = absurd cc
    by false true e = absurd cc

-- ---- whether a line lacks its newline

open_at : (start last : ℕ) (bytes : List ℕ) → start ≤ last → last < length bytes
    → is_open (drop start (take (suc last) bytes)) ≡ not (slice_index_or bytes last 0 == 0x0A)
open_at start last [] h k = absurd (omega (arith, k))
open_at zero zero (c ∷ []) h k = refl
open_at zero zero (c ∷ d ∷ bytes) h k = refl
open_at zero (suc n) (c ∷ []) h k = absurd (omega (arith, k))
open_at zero (suc n) (c ∷ d ∷ bytes) h k = open_at zero n (d ∷ bytes) (omega arith) (omega (arith, k))
open_at (suc m) zero (c ∷ bytes) h k = absurd (omega (arith, h))
open_at (suc m) (suc n) (c ∷ bytes) h k = open_at m n bytes (omega (arith, h)) (omega (arith, k))

pub open_after : (d : ProfiledText) (s : Document) (start at last : ℕ) (bytes : List ℕ) → start ≡ lines_start s
    → bytes ≡ d.text → start < at → at ≤ length d.text → last ≡ at - 1
    → not (slice_index_or bytes last 0 == 0x0A) ≡ is_open (drop (lines_start s) (take at d.text))
open_after d s start at last bytes e same less within before =
    let next : suc last ≡ at = omega (arith, before, less) in
    ap (λ (t : List ℕ). not (slice_index_or t last 0 == 0x0A)) same
    ∙ sym (open_at (lines_start s) last d.text (omega (arith, before, less, e)) (omega (arith, before, less, within)))
    ∙ ap (λ (n : ℕ). is_open (drop (lines_start s) (take n d.text))) next

closed_after : (d : ProfiledText) (s : Document) (start at : ℕ) → start ≡ lines_start s → at ≤ start
    → false ≡ is_open (drop (lines_start s) (take at d.text))
closed_after d s start at e more =
    ap is_open (sym (none (lines_start s) (take at d.text) (omega (arith, few at d.text, more, e))))
  where
    none : (n : ℕ) (l : List ℕ) → length l ≤ n → drop n l ≡ []
    none zero [] h = refl
    none (suc n) [] h = refl
    none zero (x ∷ l) h = absurd (omega (arith, h))
    none (suc n) (x ∷ l) h = none n l (omega (arith, h))

    few : (n : ℕ) (l : List ℕ) → length (take n l) ≤ n
    few zero [] = omega arith
    few zero (x ∷ l) = omega arith
    few (suc n) [] = omega arith
    few (suc n) (x ∷ l) = let h : length (take n l) ≤ n = few n l in omega (arith, h)

not_less : (a b : ℕ) → b ≤ a → nat_lt a b ≡ false
not_less a b h = grind (arith, nat_tests)

pub none_after : (d : ProfiledText) (s : Document) (start at : ℕ) → start ≡ lines_start s → at ≤ start
    → nat_lt start at ≡ is_open (drop (lines_start s) (take at d.text))
none_after d s start at e more = not_less start at more ∙ closed_after d s start at e more

-- the newline that it lacks
missing_by : (b : Bool) (newline : List ℕ) (bytes : List ℕ) (start at : ℕ) → is_open (drop start (take at bytes)) ≡ b
    → missing_newline bytes newline start at ≡ cond b newline []
missing_by b newline bytes start at e = ap (λ (c : Bool). cond c newline []) e

pub some_missing : (d : ProfiledText) (s : Document) (at : ℕ) (b : Bool) (newline old new : List ℕ)
    → b ≡ is_open (drop (lines_start s) (take at d.text)) → b ≡ true → new ≡ old ++ newline
    → new ≡ old ++ missing_newline d.text newline (lines_start s) at
some_missing d s at b newline old new e h is =
    is ∙ ap (λ (t : List ℕ). old ++ t) (sym (missing_by true newline d.text (lines_start s) at (sym e ∙ h)))

pub none_missing : (d : ProfiledText) (s : Document) (at : ℕ) (b : Bool) (newline old : List ℕ)
    → b ≡ is_open (drop (lines_start s) (take at d.text)) → b ≡ false
    → old ≡ old ++ missing_newline d.text newline (lines_start s) at
none_missing d s at b newline old e h =
    sym (append-nil old)
    ∙ ap (λ (t : List ℕ). old ++ t) (sym (missing_by false newline d.text (lines_start s) at (sym e ∙ h)))

-- ---- where a body and a line end

pub section_ends : (n m : ℕ) (st : Statement) (ss : List Statement) → slice_get ss n ≡ Some st → m ≡ suc n
    → section_end (drop n ss) ≡ body_end st.line.end (drop m ss)
section_ends n m st ss here next =
    ap section_end (from_here ss n st here) ∙ ap (λ (k : ℕ). body_end st.line.end (drop k ss)) (sym next)

module _ (d : ProfiledText) (read_syntax : Syntax) (index : NodeInfos) (s : Document)
    (holds : Holds d read_syntax index) (read : IsTextOfTree d s) where
  pub statements_are : statements_of read_syntax ≡ syntax.statements s
  statements_are = holds.is.statements ∙ ap syntax.statements (tree_is d read_syntax index s holds read)

  pub values_are : values_of read_syntax ≡ syntax.values s
  values_are = holds.is.values ∙ ap syntax.values (tree_is d read_syntax index s holds read)

  pub header_within : (header : Option ℕ) (h : ℕ) → ((h : ℕ) → header ≡ Some h → h < length (syntax.statements s))
      → header ≡ Some h → h < length (statements_of read_syntax)
  header_within header h all e = omega (arith, all h e, ap (λ (l : List Statement). length l) statements_are)

  pub header_ends : (header : Option ℕ) (h end : ℕ) → header ≡ Some h
      → end ≡ section_end (drop h (statements_of read_syntax)) → end ≡ body_end_of s header
  header_ends header h end e is =
      is ∙ ap (λ (l : List Statement). section_end (drop h l)) statements_are ∙ ap (body_end_of s) (sym e)

  pub root_ends : (header : Option ℕ) (start end : ℕ) → header ≡ None → start ≡ lines_start s
      → end ≡ body_end start (drop 0 (statements_of read_syntax)) → end ≡ body_end_of s header
  root_ends header start end e from is =
      is ∙ ap (λ (l : List Statement). body_end start (drop 0 l)) statements_are
      ∙ ap (body_end start) (drop_none (syntax.statements s))
      ∙ ap (λ (n : ℕ). body_end n (syntax.statements s)) from ∙ ap (body_end_of s) (sym e)
    where
      drop_none : (l : List Statement) → drop 0 l ≡ l
      drop_none [] = refl
      drop_none (x ∷ l) = refl

  -- ---- the line of a keyval

  found : (value at : ℕ) → keyval_end_of s value ≡ Some at
      → (i : ValueInfo) × ((slice_get (syntax.values s) value ≡ Some i)
      × (line_end_of (syntax.statements s) i ≡ Some at))
  found value at e = by (slice_get (syntax.values s) value) refl e
    where
      by : (o : Option ValueInfo) → slice_get (syntax.values s) value ≡ o
          → option_and_then (line_end_of (syntax.statements s)) o ≡ Some at
          → (i : ValueInfo) × ((slice_get (syntax.values s) value ≡ Some i)
          × (line_end_of (syntax.statements s) i ≡ Some at))
      by None k e = absurd cc
      by (Some i) k e = (i, (k, e))

  pub value_within : (value at : ℕ) → keyval_end_of s value ≡ Some at → value < length (values_of read_syntax)
  value_within value at e =
      let f = found value at e in
      omega (
        arith,
        slice_get_within (syntax.values s) value f.0 f.1.0,
        ap (λ (l : List ValueInfo). length l) values_are,
      )

  here_ends : (value at : ℕ) (i : ValueInfo) → slice_get (values_of read_syntax) value ≡ Some i
      → keyval_end_of s value ≡ Some at → line_end_of (syntax.statements s) i ≡ Some at
  here_ends value at i here e =
      ap (option_and_then (line_end_of (syntax.statements s)))
      (sym (ap (λ (l : List ValueInfo). slice_get l value) (sym values_are) ∙ here)) ∙ e

  by_line : (i : ValueInfo) (line : ℕ) → i.owner ≡ owner.Line line
      → line_end_of (syntax.statements s) i
      ≡ option_map (λ (t : Statement). t.line.end) (slice_get (syntax.statements s) line)
  by_line i line e = ap (λ (o : Owner). elim o [
    | owner.Line n ↦ option_map (λ (t : Statement). t.line.end) (slice_get (syntax.statements s) n)
    | owner.Inline n ↦ None
    | owner.Item n ↦ None
  ]) e

  pub line_within : (value at line : ℕ) (i : ValueInfo) → slice_get (values_of read_syntax) value ≡ Some i
      → keyval_end_of s value ≡ Some at → i.owner ≡ owner.Line line → line < length (statements_of read_syntax)
  line_within value at line i here e owned =
      by (slice_get (syntax.statements s) line) refl (sym (by_line i line owned) ∙ here_ends value at i here e)
    where
      by : (o : Option Statement) → slice_get (syntax.statements s) line ≡ o
          → option_map (λ (t : Statement). t.line.end) o ≡ Some at → line < length (statements_of read_syntax)
      by None k e = absurd cc
      by (Some t) k e =
          omega (
            arith,
            slice_get_within (syntax.statements s) line t k,
            ap (λ (l : List Statement). length l) statements_are,
          )

  pub line_owned : (value at : ℕ) (i : ValueInfo) → slice_get (values_of read_syntax) value ≡ Some i
      → keyval_end_of s value ≡ Some at → ((n : ℕ) → i.owner ≡ owner.Line n → ⊥) → ⊥
  line_owned value at i here e never = by i.owner refl (here_ends value at i here e)
    where
      by : (o : Owner) → i.owner ≡ o → elim o [
        | owner.Line n ↦ option_map (λ (t : Statement). t.line.end) (slice_get (syntax.statements s) n)
        | owner.Inline n ↦ None
        | owner.Item n ↦ None
      ] ≡ Some at → ⊥
      by (owner.Line n) k e = never n k
      by (owner.Inline n) k e = absurd cc
      by (owner.Item n) k e = absurd cc

  pub line_ends : (value line : ℕ) (i : ValueInfo) (t : Statement) → slice_get (values_of read_syntax) value ≡ Some i
      → i.owner ≡ owner.Line line → slice_get (statements_of read_syntax) line ≡ Some t
      → keyval_end_of s value ≡ Some t.line.end
  line_ends value line i t here owned there =
      ap (option_and_then (line_end_of (syntax.statements s)))
      (ap (λ (l : List ValueInfo). slice_get l value) (sym values_are) ∙ here)
      ∙ by_line i line owned
      ∙ ap (option_map (λ (t : Statement). t.line.end))
      (ap (λ (l : List Statement). slice_get l line) (sym statements_are) ∙ there)

-- ---- around a keyval

line_written : (old missing keyed newline one two new : List ℕ) → one ≡ old ++ missing → two ≡ one ++ keyed
    → new ≡ two ++ newline → new ≡ old ++ (missing ++ (keyed ++ newline))
line_written old missing keyed newline one two new h1 h2 h3 =
    h3 ∙ ap (λ (t : List ℕ). t ++ newline) (h2 ∙ ap (λ (t : List ℕ). t ++ keyed) h1) ∙ regroup old missing keyed newline
  where
    regroup : (a b c d : List ℕ) → ((a ++ b) ++ c) ++ d ≡ a ++ (b ++ (c ++ d))
    regroup a b c d = simp append_assoc refl

pub line_pushed : (d : ProfiledText) (s : Document) (at : ℕ) (keys : List (List ℕ)) (v : Value)
    (newline old one two new : List ℕ) → IsTextOfTree d s → newline ≡ (newline_of s).text
    → one ≡ old ++ missing_newline d.text newline (lines_start s) at → two ≡ one ++ keyed_text keys v
    → new ≡ two ++ newline → new ≡ old ++ (new_line_at s at keys v).new
line_pushed d s at keys v newline old one two new read nl h1 h2 h3 =
    line_written old (missing_newline d.text newline (lines_start s) at) (keyed_text keys v) newline one two new h1 h2
    h3
    ∙ ap (λ (t : List ℕ). old ++ (missing_newline t newline (lines_start s) at ++ (keyed_text keys v ++ newline)))
    read.reads.spelled
    ∙ ap (λ (t : List ℕ). old ++ (missing_newline (text s) t (lines_start s) at ++ (keyed_text keys v ++ t))) nl

-- what a header is written as
header_text : (k : List ℕ) (ks : List (List ℕ))
    → content_text (new_header (k ∷ ks)) ≡ 0x5B ∷ (keys_text false (k ∷ ks) ++ (0x5D ∷ []))
header_text k ks =
    ap (λ (t : List ℕ). 0x5B ∷ t) (text_of-append (key_leaves (key_with (k ∷ ks))) (written leaf.HeadClose (0x5D ∷ []))
    ∙ ap (λ (t : List ℕ). t ++ (0x5D ∷ [])) (keys_as_written k ks))

section_written : (from : ℕ) (path : List Part) (k : List ℕ) (ks : List (List ℕ))
    (old missing newline keyed one two three four five six seven new : List ℕ) → keys_in (take from path) ≡ k ∷ ks
    → one ≡ old ++ missing → two ≡ one ++ newline
    → three ≡ two ++ codes "[" → four ≡ three ++ keys_text false (keys_between 0 from path) → five ≡ four ++ codes "]"
    → six ≡ five ++ newline → seven ≡ six ++ keyed → new ≡ seven ++ newline
    → new ≡ old ++ (missing ++ (newline
    ++ (content_text (new_header (keys_in (take from path))) ++ (newline ++ (keyed ++ newline)))))
section_written from path k ks old missing newline keyed one two three four five six seven new table h1 h2 h3 h4 h5 h6
    h7 h8 =
    let keys : keys_between 0 from path ≡ k ∷ ks = ap keys_in (drop_none (take from path)) ∙ table in
    let names : List ℕ = keys_text false (k ∷ ks) in
    h8 ∙ ap (λ (t : List ℕ). t ++ newline)
    (h7 ∙ ap (λ (t : List ℕ). t ++ keyed)
    (h6 ∙ ap (λ (t : List ℕ). t ++ newline) (h5 ∙ ap (λ (t : List ℕ). t ++ codes "]") (h4
    ∙ ap (λ (l : List (List ℕ)). three ++ keys_text false l) keys
    ∙ ap (λ (t : List ℕ). t ++ names)
    (h3 ∙ ap (λ (t : List ℕ). t ++ codes "[") (h2 ∙ ap (λ (t : List ℕ). t ++ newline) h1))))))
    ∙ regroup old missing newline (codes "[") names (codes "]") keyed
    ∙ ap (λ (t : List ℕ). old ++ (missing ++ (newline ++ (t ++ (newline ++ (keyed ++ newline))))))
    (sym (header_text k ks) ∙ ap (λ (l : List (List ℕ)). content_text (new_header l)) (sym table))
  where
    regroup : (a b n c d e f : List ℕ)
        → (((((((a ++ b) ++ n) ++ c) ++ d) ++ e) ++ n) ++ f) ++ n ≡ a
        ++ (b ++ (n ++ ((c ++ (d ++ e)) ++ (n ++ (f ++ n)))))
    regroup a b n c d e f = simp append_assoc refl

    drop_none : (l : List Part) → drop 0 l ≡ l
    drop_none [] = refl
    drop_none (x ∷ l) = refl

pub section_pushed : (d : ProfiledText) (s : Document) (at from : ℕ) (path : List Part) (v : Value)
    (newline old one two three four five six seven new : List ℕ) → IsTextOfTree d s → newline ≡ (newline_of s).text
    → (k : List ℕ) × (ks : List (List ℕ)) × (keys_in (take from path) ≡ k ∷ ks)
    → one ≡ old ++ missing_newline d.text newline (lines_start s) at → two ≡ one ++ newline
    → three ≡ two ++ codes "[" → four ≡ three ++ keys_text false (keys_between 0 from path)
    → five ≡ four ++ codes "]" → six ≡ five ++ newline → seven ≡ six ++ keyed_text (keys_in (drop from path)) v
    → new ≡ seven ++ newline
    → new ≡ old ++ (new_section_at s at (keys_in (take from path)) (keys_in (drop from path)) v).new
section_pushed d s at from path v newline old one two three four five six seven new read nl table h1 h2 h3 h4 h5 h6 h7
    h8 =
    let keyed : List ℕ = keyed_text (keys_in (drop from path)) v in
    let head : List ℕ = content_text (new_header (keys_in (take from path))) in
    section_written from path table.0 table.1 old (missing_newline d.text newline (lines_start s) at) newline keyed one
    two three four five six seven new table.2 h1 h2 h3 h4 h5 h6 h7 h8
    ∙ ap (λ (t : List ℕ).
    old ++ (missing_newline t newline (lines_start s) at ++ (newline ++ (head ++ (newline ++ (keyed ++ newline))))))
    read.reads.spelled
    ∙ ap (λ (t : List ℕ).
    old ++ (missing_newline (text s) t (lines_start s) at ++ (t ++ (head ++ (t ++ (keyed ++ t)))))) nl
