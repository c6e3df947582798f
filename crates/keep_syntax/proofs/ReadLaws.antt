-- What was stored of a text is the syntax of its document, or of its value, and a fault means what the grammar says.
--
-- The code's lemmas end in `DocumentIs`: the stored lists are those of a document that has the text. The reading
-- function finds each document of a text, and no other, so this document is the only one (`found`, `only`), and each
-- fault of the reading is a fault by the grammar (`is_fault`): `Syntax` where no document has the text, `TooDeep` where
-- one goes on deeper. A text that has a document leaves no fault but out of memory (`only_memory`). The second half
-- says this of a value alone.
--
-- Theorems: `is_syntax`, `of_text` and `is_fault`; `is_value_syntax` and `is_value_fault`.
use Rattle.std.proofs.Common.{◌≡◌, ℕ, ◌+◌, ◌≤◌, List, [], ◌∷◌, ◌++◌, length, slice_get, Some, Result, Ok, Err, refl}
use Rattle.std.proofs.Common.{sym, ap, ◌∙◌, subst, arith, add-one, IsCharBoundary}
use Rattle.std.specs.List.{AllByRecursion}
use Rattle.std.proofs.lemmas.List.{append-nil}
use Rattle.std.proofs.lemmas.Str.{IsCharBoundary-end}
use Rattle.keep_types.specs.declared.leaf.Profile.{Profile}
use Rattle.keep_types.specs.declared.leaf.Leaf.TheVariants as leaf
use Rattle.keep_syntax.specs.declared.fault.ReadFault.{ReadFault}
use Rattle.keep_syntax.specs.declared.fault.ReadFault.TheVariants as faults
use Rattle.keep_syntax_store.specs.declared.parts.Parts.{Parts}
use Rattle.keep_types.specs.declared.syntax.ValueInfo.{ValueInfo}
use Rattle.keep_syntax.specs.declared.syntax.Syntax.{Syntax}
use Rattle.keep_syntax.specs.declared.alone.ValueSyntax.{ValueSyntax}
use Rattle.keep_syntax.specs.Tree.{Document, Value, text_of, token, leaves, text}
use Rattle.keep_syntax.specs.Grammar.{Reads, ReadsValue}
use Rattle.keep_syntax.specs.Numbered.{placed, tokens}
use Rattle.keep_syntax.specs.Reading.{Fault, Bad, Deep, read_document, read_one_value}
use Rattle.keep_syntax_store.specs.Flat.{Flat, flat}
use Rattle.keep_syntax.specs.Growth.{kinds, starts, add_at, Fails}
use Rattle.keep_syntax.specs.Cut.{start_in, cut, cut_by}
use Rattle.keep_syntax.specs.FlatLines.{flat_of, DocumentIs, OneIs}
use Rattle.keep_syntax.specs.WholeLines.{starts_of}
use Rattle.keep_syntax.specs.Contract.{IsSyntaxOf, IsTextOf, IsValueSyntaxOf, IsReadOf, IsReadAlone, tokens_of}
use Rattle.keep_syntax.specs.Contract.{values_of, value_values_of, values_alone, IsFaultOf, IsValueFaultOf}
use Rattle.keep_syntax.specs.Nesting.{IsWithin, deepest}
use Rattle.keep_syntax.proofs.LoopLaws.{ok_is}
use Rattle.keep_syntax.proofs.SpaceLaws.{text_of-append}
use Rattle.keep_syntax.proofs.WholeLaws.{value_found, value_read, value_bad}
use Rattle.keep_syntax.proofs.DocumentLaws.{document_found, document_read, document_bad}
use Rattle.keep_syntax.proofs.DeepLaws.{value_deep}
use Rattle.keep_syntax.proofs.DeepLineLaws.{document_deep}
use Rattle.keep_syntax.proofs.TooDeepLaws.{too_deep_value}
use Rattle.keep_syntax.proofs.TooDeepLineLaws.{too_deep_document}
use Rattle.keep_syntax.proofs.CountLaws.{inner_leaves, leaves_end, leaves_count, tokens_count}
use Rattle.keep_syntax.proofs.PlaceLaws.{tokens_placed}
use Rattle.keep_syntax.proofs.DepthLaws.{values_within, value_values_within}
use Rattle.keep_syntax.proofs.DeepestLaws.{all_at, deepest_alone}
use Rattle.keep_syntax.proofs.LawLaws.{tokens_few}
use Rattle.keep_syntax.proofs.CutLaws.{cut_placed, start_holds, start_forward}

-- ---- documents

abbrev pub syntax_of : Parts → List ℕ → ℕ → Syntax
syntax_of p lines len = record { parts = p; lines = lines; len = len }

pub inner_text : (d : Document) → text d ≡ text_of (inner_leaves d)
inner_text d =
    ap text_of (leaves_end d) ∙ text_of-append (inner_leaves d) (token leaf.End [])
    ∙ append-nil (text_of (inner_leaves d))

tokens_are : (d : Document)
    → cut (text d) (kinds (inner_leaves d) ++ (leaf.End ∷ [])) (starts 0 (inner_leaves d)) ≡ tokens d
tokens_are d = cut_placed (text d) [] (inner_leaves d) 0 refl (inner_text d) ∙ ap (placed 0) (sym (leaves_end d))

-- what was read of a text of so many bytes
abbrev pub DocumentOf : Profile → ℕ → List ℕ → Parts → List ℕ → ℕ → Type 0
DocumentOf profile limit bytes p lines len = DocumentIs profile limit bytes (flat p) lines × (len ≡ length bytes)

pub is_read : (profile : Profile) (limit : ℕ) (bytes : List ℕ) (f : Flat) (lines : List ℕ)
    (h : DocumentIs profile limit bytes f lines) → Reads profile limit bytes h.document
is_read profile limit bytes f lines h = document_found profile limit bytes h.document h.is_read

-- all that is stored of a document
pub syntax_is : (s : Syntax) (d : Document) → flat s.parts ≡ flat_of d → s.lines ≡ starts_of d → s.len ≡ length (text d)
    → IsSyntaxOf s d
unfolding add_at
syntax_is s d stored lines len = record {
  tokens = ap (λ (f : Flat). cut_by f (text d)) stored ∙ tokens_are d;
  statements = ap (λ (f : Flat). f.statements) stored;
  parts = ap (λ (f : Flat). f.keys) stored;
  values = ap (λ (f : Flat). f.values) stored;
  stored = stored;
  lines = lines;
  len = len;
}

pub is_syntax : (profile : Profile) (limit : ℕ) (bytes : List ℕ) (p : Parts) (lines : List ℕ) (len : ℕ)
    (h : DocumentOf profile limit bytes p lines len) → IsSyntaxOf (syntax_of p lines len) h.0.document
is_syntax profile limit bytes p lines len h =
    syntax_is (syntax_of p lines len) h.0.document h.0.grows.stored h.0.lines
    (h.1 ∙ ap length (is_read profile limit bytes (flat p) lines h.0).spelled)

pub found : (profile : Profile) (limit : ℕ) (bytes : List ℕ) (p : Parts) (lines : List ℕ) (len : ℕ)
    → DocumentOf profile limit bytes p lines len
    → (d : Document) × Reads profile limit bytes d × IsSyntaxOf (syntax_of p lines len) d
found profile limit bytes p lines len h =
    (h.0.document, is_read profile limit bytes (flat p) lines h.0, is_syntax profile limit bytes p lines len h)

pub only : (profile : Profile) (limit : ℕ) (bytes : List ℕ) (p : Parts) (lines : List ℕ) (len : ℕ)
    → DocumentOf profile limit bytes p lines len
    → (d : Document) → Reads profile limit bytes d → IsSyntaxOf (syntax_of p lines len) d
only profile limit bytes p lines len h d r =
    subst (λ (x : Document). IsSyntaxOf (syntax_of p lines len) x)
    (ok_is h.0.document d (sym h.0.is_read ∙ document_read profile limit bytes d r))
    (is_syntax profile limit bytes p lines len h)

pub of_text : (profile : Profile) (limit : ℕ) (bytes : List ℕ) (p : Parts) (lines : List ℕ) (len : ℕ)
    → DocumentOf profile limit bytes p lines len → IsTextOf (syntax_of p lines len) bytes
unfolding add_at
of_text profile limit bytes p lines len h =
    let d = h.0.document in
    let inner = inner_leaves d in
    let spelled = (is_read profile limit bytes (flat p) lines h.0).spelled in
    let begin : (flat p).starts ≡ starts 0 inner = ap (λ (f : Flat). f.starts) h.0.grows.stored in
    record {
      document = d;
      spelled = spelled;
      is = is_syntax profile limit bytes p lines len h;
      cuts = λ n.
          subst (λ (ss : List ℕ). IsCharBoundary bytes (start_in bytes ss n)) (sym begin)
          (start_holds (IsCharBoundary bytes) bytes (starts 0 inner) h.0.grows.bounds (IsCharBoundary-end bytes) n);
      forward = λ n. subst (λ (ss : List ℕ). start_in bytes ss n ≤ start_in bytes ss (n + 1)) (sym begin)
          (subst (λ (m : ℕ). start_in bytes (starts 0 inner) n ≤ start_in bytes (starts 0 inner) m) (sym (add-one n))
          (start_forward bytes 0 inner (omega (arith, ap length (spelled ∙ inner_text d))) n));
    }

pub within : (profile : Profile) (limit : ℕ) (bytes : List ℕ) (p : Parts) (lines : List ℕ) (len : ℕ)
    → DocumentOf profile limit bytes p lines len → AllByRecursion (IsWithin limit) (values_of (syntax_of p lines len))
within profile limit bytes p lines len h =
    subst (λ (vs : List ValueInfo). AllByRecursion (IsWithin limit) vs)
    (sym (is_syntax profile limit bytes p lines len h).values)
    (values_within profile limit bytes h.0.document (is_read profile limit bytes (flat p) lines h.0))

pub few : (profile : Profile) (limit : ℕ) (bytes : List ℕ) (p : Parts) (lines : List ℕ) (len : ℕ)
    → DocumentOf profile limit bytes p lines len → length (tokens_of (syntax_of p lines len) bytes) ≤ length bytes + 1
few profile limit bytes p lines len h =
    let d = h.0.document in
    let s = syntax_of p lines len in
    let r = is_read profile limit bytes (flat p) lines h.0 in
    let same : length (tokens_of s bytes) ≡ length (tokens d) =
    ap (λ (b : List ℕ). length (tokens_of s b)) r.spelled
    ∙ ap length (is_syntax profile limit bytes p lines len h).tokens in
    omega (arith, same, tokens_placed 0 (leaves d), tokens_count 0 (leaves d), leaves_count profile limit bytes d r)

-- what is read leaves no fault but out of memory
memory_only : {A : Type 0} (bytes : List ℕ) (e : ReadFault) (r : Result A Fault) (x : A) → Fails bytes e r → r ≡ Ok x
    → e ≡ faults.Memory
memory_only bytes faults.Memory r x f k = refl
memory_only bytes (faults.Syntax at what) r x f k = absurd (let clash = sym f ∙ k in cc)
memory_only bytes (faults.TooDeep at) r x f k = absurd (let clash = sym f.1 ∙ k in cc)
memory_only bytes (faults.Utf8 at) r x f k = absurd f
memory_only bytes (faults.Define at why) r x f k = absurd f

pub only_memory : (profile : Profile) (limit : ℕ) (bytes : List ℕ) (e : ReadFault)
    → Fails bytes e (read_document profile limit bytes) → (d : Document) → Reads profile limit bytes d
    → e ≡ faults.Memory
only_memory profile limit bytes e f d r =
    memory_only bytes e (read_document profile limit bytes) d f (document_read profile limit bytes d r)

-- what stops at a bracket that is too deep is no syntax fault
not_both : {A : Type 0} {r : Result A Fault} {rest : List ℕ} → r ≡ Err Bad → r ≡ Err (Deep rest) → ⊥
not_both bad deep = let clash = sym bad ∙ deep in cc

pub is_fault : (profile : Profile) (limit : ℕ) (bytes : List ℕ) (e : ReadFault)
    → Fails bytes e (read_document profile limit bytes) → IsFaultOf profile limit bytes e
is_fault profile limit bytes faults.Memory f = tt
is_fault profile limit bytes (faults.Syntax at what) f =
    record {
      none = λ d v e. document_bad profile limit bytes f d v e;
      none_deep = λ p d. not_both f (too_deep_document profile limit bytes p d);
    }
is_fault profile limit bytes (faults.TooDeep at) f = document_deep profile limit bytes at f.0 f.1
is_fault profile limit bytes (faults.Utf8 at) f = absurd f
is_fault profile limit bytes (faults.Define at why) f = absurd f

-- ---- what was read of a text

pub read_few : (profile : Profile) (limit : ℕ) (bytes : List ℕ) (s : Syntax) → IsReadOf profile limit bytes s
    → length (tokens_of s bytes) ≤ length bytes + 1
read_few profile limit bytes s (d, reads, is) =
    let same : length (tokens_of s bytes) ≡ length (tokens d) =
    ap (λ (b : List ℕ). length (tokens_of s b)) reads.spelled ∙ ap length is.tokens in
    omega (arith, same, tokens_few profile limit bytes d reads)

pub value_read_within : (profile : Profile) (limit : ℕ) (bytes : List ℕ) (s : Syntax) (number : ℕ) (v : ValueInfo)
    → slice_get (values_of s) number ≡ Some v → IsReadOf profile limit bytes s → IsWithin limit v
value_read_within profile limit bytes s number v here (d, reads, is) =
    all_at (IsWithin limit) (values_of s) number v
    (subst (λ (vs : List ValueInfo). AllByRecursion (IsWithin limit) vs) (sym is.values)
    (values_within profile limit bytes d reads)) here

pub alone_read_within : (profile : Profile) (limit : ℕ) (bytes : List ℕ) (s : ValueSyntax) (number : ℕ) (v : ValueInfo)
    → slice_get (value_values_of s) number ≡ Some v → IsReadAlone profile limit bytes s → IsWithin limit v
alone_read_within profile limit bytes s number v here (value, reads, is) =
    all_at (IsWithin limit) (value_values_of s) number v
    (subst (λ (vs : List ValueInfo). AllByRecursion (IsWithin limit) vs) (sym is.values)
    (value_values_within profile limit bytes value reads)) here

-- ---- values

abbrev value_syntax_of : Parts → ℕ → ValueSyntax
value_syntax_of p depth = record { parts = p; depth = depth }

pub value_is_read : (profile : Profile) (limit : ℕ) (bytes : List ℕ) (p : Parts)
    (h : OneIs profile limit bytes (flat p)) → ReadsValue profile limit bytes h.value
value_is_read profile limit bytes p h = value_found profile limit bytes h.value h.is_read

values_are : (profile : Profile) (limit : ℕ) (bytes : List ℕ) (p : Parts) (h : OneIs profile limit bytes (flat p))
    → (flat p).values ≡ values_alone h.value
unfolding add_at
values_are profile limit bytes p h = ap (λ (f : Flat). f.values) h.grows.stored

pub is_value_syntax : (profile : Profile) (limit : ℕ) (bytes : List ℕ) (p : Parts)
    (h : OneIs profile limit bytes (flat p)) (depth : ℕ) → depth ≡ deepest (flat p).values
    → IsValueSyntaxOf (value_syntax_of p depth) h.value
unfolding add_at
is_value_syntax profile limit bytes p h depth e =
    let is = values_are profile limit bytes p h in
    record {
      parts = ap (λ (f : Flat). f.keys) h.grows.stored;
      values = is;
      depth = e ∙ ap deepest is ∙ deepest_alone profile h.value (value_is_read profile limit bytes p h).valid;
    }

pub found_value : (profile : Profile) (limit : ℕ) (bytes : List ℕ) (p : Parts) (depth : ℕ)
    → OneIs profile limit bytes (flat p) → depth ≡ deepest (flat p).values
    → (v : Value) × ReadsValue profile limit bytes v × IsValueSyntaxOf (value_syntax_of p depth) v
found_value profile limit bytes p depth h e =
    (h.value, value_is_read profile limit bytes p h, is_value_syntax profile limit bytes p h depth e)

pub only_value : (profile : Profile) (limit : ℕ) (bytes : List ℕ) (p : Parts) (depth : ℕ)
    → OneIs profile limit bytes (flat p) → depth ≡ deepest (flat p).values → (v : Value)
    → ReadsValue profile limit bytes v → IsValueSyntaxOf (value_syntax_of p depth) v
only_value profile limit bytes p depth h e v r =
    subst (λ (x : Value). IsValueSyntaxOf (value_syntax_of p depth) x)
    (ok_is h.value v (sym h.is_read ∙ value_read profile limit bytes v r))
    (is_value_syntax profile limit bytes p h depth e)

pub value_within : (profile : Profile) (limit : ℕ) (bytes : List ℕ) (p : Parts) → OneIs profile limit bytes (flat p)
    → AllByRecursion (IsWithin limit) (flat p).values
value_within profile limit bytes p h =
    subst (λ (vs : List ValueInfo). AllByRecursion (IsWithin limit) vs) (sym (values_are profile limit bytes p h))
    (value_values_within profile limit bytes h.value (value_is_read profile limit bytes p h))

pub value_only_memory : (profile : Profile) (limit : ℕ) (bytes : List ℕ) (e : ReadFault)
    → Fails bytes e (read_one_value profile limit bytes) → (v : Value) → ReadsValue profile limit bytes v
    → e ≡ faults.Memory
value_only_memory profile limit bytes e f v r =
    memory_only bytes e (read_one_value profile limit bytes) v f (value_read profile limit bytes v r)

pub is_value_fault : (profile : Profile) (limit : ℕ) (bytes : List ℕ) (e : ReadFault)
    → Fails bytes e (read_one_value profile limit bytes) → IsValueFaultOf profile limit bytes e
is_value_fault profile limit bytes faults.Memory f = tt
is_value_fault profile limit bytes (faults.Syntax at what) f =
    record {
      none = λ v k e. value_bad profile limit bytes f v k e;
      none_deep = λ p d. not_both f (too_deep_value profile limit bytes p d);
    }
is_value_fault profile limit bytes (faults.TooDeep at) f = value_deep profile limit bytes at f.0 f.1
is_value_fault profile limit bytes (faults.Utf8 at) f = absurd f
is_value_fault profile limit bytes (faults.Define at why) f = absurd f
