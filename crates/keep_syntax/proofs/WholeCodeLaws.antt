-- What the code stores of a whole text is what is stored of the document, or of the one value, that is read from it;
-- and where the code fails, so does the reading.
--
-- Theorems: `document_is`: the document is read, if its byte order mark (or none) and then its lines are; `one_is`: one
-- value is read, if it ends with the text; `one_bad`: if it ends before the text does, the reading fails.
use Rattle.std.proofs.Common.{◌≡◌, ℕ, ◌+◌, ◌<◌, Bool, true, false, ◌==◌, List, [], ◌∷◌, ◌++◌, length, drop, Result, Ok}
use Rattle.std.proofs.Common.{refl, ap, ◌∙◌, subst, arith, IsUtf8, IsCharBoundary}
use Rattle.std.proofs.lemmas.Bool.{false≢true}
use Rattle.std.proofs.lemmas.Bool.Decides.{nat_tests}
use Rattle.std.proofs.lemmas.Str.{IsCharBoundary-start, IsCharBoundary-past_char}
use Rattle.std.proofs.lemmas.List.{drop_all, length-drop}
use lib.Utf8.{encode}
use Rattle.keep_types.specs.declared.leaf.Leaf.TheVariants as leaf
use Rattle.keep_types.specs.declared.leaf.Profile.{Profile}
use Rattle.keep_syntax.specs.declared.fault.ReadFault.{ReadFault}
use Rattle.keep_syntax.specs.Tree.{Value, Document, bom_leaves}
use Rattle.keep_syntax.specs.Numbered.{Count, first_line}
use Rattle.keep_syntax.specs.Reading.{Fault, ◌>>=◌, lines_of, has_bom, after_bom, read_document, value_of}
use Rattle.keep_syntax.specs.Reading.{read_one_value}
use Rattle.keep_syntax_store.specs.Flat.{Flat, empty, with_token}
use Rattle.keep_syntax.specs.Growth.{only, both, starts, Grows, Fails, IsSyntax, value_taken, ValueRead}
use Rattle.keep_syntax_store.specs.Rereading.{count_at}
use Rattle.keep_syntax.specs.FlatLines.{lines_taken, LinesAre, BomRead, document_taken, DocumentIs, alone, OneIs}
use Rattle.keep_syntax.specs.WholeLines.{line_starts}
use Rattle.keep_syntax_store.proofs.Shared.{same_count}
use Rattle.keep_syntax.proofs.LoopLaws.{done, ok_is}
use Rattle.keep_syntax.proofs.GrowthLaws.{grows_nothing, grows_then, grows_as, grows_token, grown_keys, grown_values}
use Rattle.keep_syntax.proofs.GrowthLaws.{grown_statements}
use Rattle.keep_syntax.proofs.GapCodeLaws.{fails_bad, fails_through}

-- ---- the byte order mark

-- it is one character
bom_boundary : (text : List ℕ) → IsUtf8 text → has_bom text ≡ true → IsCharBoundary text 3
unfolding encode
bom_boundary [] utf8 h = absurd (false≢true h)
bom_boundary (a ∷ []) utf8 h = absurd (grind (arith, nat_tests))
bom_boundary (a ∷ b ∷ []) utf8 h = absurd (grind (arith, nat_tests))
bom_boundary (a ∷ b ∷ c ∷ rest) utf8 h =
    let first_is : a ≡ 0xEF = grind (arith, nat_tests) in
    let second_is : b ≡ 0xBB = grind (arith, nat_tests) in
    let third_is : c ≡ 0xBF = grind (arith, nat_tests) in
    IsCharBoundary-past_char (a ∷ b ∷ c ∷ rest) rest 0 0xFEFF (omega arith) utf8 (rw (first_is, second_is, third_is))

pub bom_there : (text : List ℕ) (old new : Flat) → IsUtf8 text → has_bom text ≡ true → new ≡ with_token leaf.Bom 0 old
    → BomRead text old new (Ok 3)
bom_there text old new utf8 e is = record {
  part = true;
  bound = bom_boundary text utf8 e;
  forward = omega arith;
  is_read = ap (λ (b : Bool). done (b, after_bom b text)) e;
  grows = grows_token text (0xEF ∷ 0xBB ∷ 0xBF ∷ []) leaf.Bom old new 0 3 refl (IsCharBoundary-start text utf8) is;
}

pub bom_absent : (text : List ℕ) (old : Flat) → IsUtf8 text → has_bom text ≡ false → BomRead text old old (Ok 0)
bom_absent text old utf8 e = record {
  part = false;
  bound = IsCharBoundary-start text utf8;
  forward = omega arith;
  is_read = ap (λ (b : Bool). done (b, after_bom b text)) e;
  grows = grows_nothing text old 0;
}

-- ---- a document

abbrev document_by : Profile → ℕ → Bool × List ℕ → Result Document Fault
document_by profile limit b =
    lines_of profile limit [] b.1 >>= λ l. Ok (record { bom = b.0; ended = l.0.0; last = l.0.1 })

document_after : (profile : Profile) (limit : ℕ) (text : List ℕ) (begin : ℕ) (old new : Flat)
    (b : BomRead text old new (Ok begin))
    → read_document profile limit text ≡ document_by profile limit (b.part, drop begin text)
unfolding read_document
document_after profile limit text begin old new b =
    ap (document_by profile limit)
    (ok_is (has_bom text, after_bom (has_bom text) text) (b.part, drop begin text) b.is_read)

pub document_fails : (profile : Profile) (limit : ℕ) (text : List ℕ) (begin : ℕ) (old new : Flat) (e : ReadFault)
    → BomRead text old new (Ok begin) → Fails text e (lines_of profile limit [] (drop begin text))
    → Fails text e (read_document profile limit text)
document_fails profile limit text begin old new e b k =
    fails_through text e (lines_of profile limit [] (drop begin text)) (read_document profile limit text)
    (λ d h. document_after profile limit text begin old new b ∙ rw h refl) k

pub document_is : (profile : Profile) (limit : ℕ) (text : List ℕ) (begin : ℕ) (old mid new : Flat)
    (none starts : List ℕ) → old ≡ empty → none ≡ [] → BomRead text old mid (Ok begin)
    → LinesAre profile limit text begin mid new none starts
    → DocumentIs profile limit text new starts
document_is profile limit text begin old mid new none starts e nothing b all =
    let ls = all.read in
    let d : Document = record { bom = b.part; ended = ls.part.0; last = ls.part.1 } in
    let bom = only (bom_leaves b.part) in
    let counted : count_at begin mid ≡ first_line d =
    same_count (count_at begin mid) (first_line d) (omega (arith, b.grows.place))
    (grown_statements bom b.grows ∙ ap (λ (f : Flat). length f.statements + 0) e)
    (grown_keys bom b.grows ∙ ap (λ (f : Flat). length f.keys + 0) e)
    (grown_values bom b.grows ∙ ap (λ (f : Flat). length f.values + 0) e) in
    let g : Grows text old new 0 (length text) (document_taken d) =
    grows_as (document_taken d) (ap (λ (c : Count). both bom (lines_taken c ls.part)) counted)
    (grows_then b.grows ls.grows) in
    record {
      document = d;
      is_read = document_after profile limit text begin old mid b ∙ rw ls.is_read refl;
      grows = subst (λ (f : Flat). Grows text f new 0 (length text) (document_taken d)) e g;
      lines = all.starts ∙ ap (λ (ns : List ℕ). ns ++ line_starts begin ls.part.0) nothing
          ∙ ap (λ (n : ℕ). line_starts n ls.part.0) (omega (arith, b.grows.place));
    }

-- ---- one value

pub one_fails : (profile : Profile) (limit : ℕ) (text : List ℕ) (e : ReadFault)
    → Fails text e (value_of profile limit text) → Fails text e (read_one_value profile limit text)
unfolding read_one_value
one_fails profile limit text e k =
    fails_through text e (value_of profile limit text) (read_one_value profile limit text) (λ d h. rw h refl) k

pub one_bad : (profile : Profile) (limit : ℕ) (text : List ℕ) (end : ℕ) (old new : Flat) (e : ReadFault)
    → ValueRead profile limit text 0 0 alone old new (Ok end) → end < length text → IsSyntax e
    → Fails text e (read_one_value profile limit text)
unfolding read_one_value
one_bad profile limit text end old new e v more fault =
    let some : (length (drop end text) == 0) ≡ false = grind (arith, nat_tests, length-drop end text) in
    fails_bad text e (read_one_value profile limit text) fault (rw (v.is_read, some) refl)

one_read : (profile : Profile) (limit : ℕ) (text : List ℕ) (v : Value) → value_of profile limit text ≡ Ok (v, [])
    → read_one_value profile limit text ≡ Ok v
unfolding read_one_value
one_read profile limit text v e = rw e refl

pub one_is : (profile : Profile) (limit : ℕ) (text : List ℕ) (end : ℕ) (old new : Flat) → old ≡ empty
    → (v : ValueRead profile limit text 0 0 alone old new (Ok end)) → (end < length text → ⊥)
    → OneIs profile limit text new
one_is profile limit text end old new e v past =
    let at_end : end ≡ length text = omega (arith, v.bound.0, past) in
    record {
      value = v.part;
      is_read =
          one_read profile limit text v.part
          (v.is_read ∙ ap (λ (t : List ℕ). done (v.part, t)) (drop_all end text (omega (arith, at_end))));
      grows = subst (λ (f : Flat). Grows text f new 0 (length text) (value_taken alone 0 0 v.part)) e
          (subst (λ (m : ℕ). Grows text old new 0 m (value_taken alone 0 0 v.part)) at_end v.grows);
    }
