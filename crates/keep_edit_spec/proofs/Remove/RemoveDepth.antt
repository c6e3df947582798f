-- By `remove` a document gets no deeper.
--
-- Theorem: `remove_depth`.
use Rattle.std.proofs.Common.{ℕ, zero, suc, ◌+◌, ◌≤◌, Bool, true, false, List, [], ◌∷◌, ◌++◌, arith, Option, Some, None}
use Rattle.std.specs.Prelude.{codes, drop}
use Rattle.keep_syntax.specs.Tree.{Gap, Name, Body, scalar, array, inline, Entries, none, entry, text_of, entries_depth}
use Rattle.keep_syntax.specs.Tree.{depth, Line, Ended, Document}
use Rattle.keep_path.specs.Path.{Part, same_path}
use Rattle.keep_meaning.specs.Marks.{Reading, start}
use Rattle.keep_meaning.specs.Meaning.{step, lines}
use Rattle.keep_edit_spec.specs.Changed.{Changed, within}
use Rattle.keep_edit_spec.specs.Values.{entry_prefix, take_out, taken_only, taken_first, taken_last, is_last_named}
use Rattle.keep_edit_spec.specs.Values.{removal, Row}
use Rattle.keep_edit_spec.specs.Lines.{in_line, in_lines, last_line, begins, drop_prefix, drop_lines, body_length}
use Rattle.keep_edit_spec.specs.Edits.{remove, change, nested, is_own, clear_line, without_lines}
use Rattle.keep_edit_spec.proofs.Common.LineTexts.{clear_cases}
use Rattle.keep_edit_spec.proofs.Common.SetLaw.{EachTo, to_within, to_or_else}
use Rattle.keep_edit_spec.proofs.Common.DoneInDocument.{page_depth}
use Rattle.keep_edit_spec.proofs.Common.ActDepth.{NoDeeper, NoDeeperLine, line_depths, pages_depth, in_document_depth}
use Rattle.keep_edit_spec.proofs.Remove.TakenOut.{out_when}

-- ---- an entry taken out

abbrev NoDeeperRow : Entries → Row → Type 0
NoDeeperRow es r = entries_depth r.entries ≤ entries_depth es

two_depth : (gap : Gap) (name : Option Name) (body : Body) (nested : Entries) (after next_gap : Gap)
    (name' : Option Name) (body' : Body) (nested' : Entries) (after' : Gap) (comma' : Option Gap) (rest' : Entries)
    (further : Option (Changed Row)) (b c : Bool)
    → EachTo (NoDeeperRow (entry name' body' nested' after' comma' rest')) further
    → EachTo (NoDeeperRow (entry name body nested after (Some next_gap)
    (entry name' body' nested' after' comma' rest'))) (elim b [
      | true ↦ Some (taken_first gap name body nested after next_gap (entry name' body' nested' after' comma' rest'))
      | false ↦ elim c [
        | true ↦ Some (taken_last gap name body nested after next_gap name' body' nested' after')
        | false ↦ within (λ r. record { gap = gap; entries = entry name body nested after (Some r.gap) r.entries })
            (text_of gap ++ (entry_prefix name body nested ++ (text_of after ++ codes ","))) [] further
      ]
    ])
two_depth gap name body nested after next_gap name' body' nested' after' comma' rest' further true c ih = omega arith
two_depth gap name body nested after next_gap name' body' nested' after' comma' rest' further false true ih =
    omega arith
two_depth gap name body nested after next_gap name' body' nested' after' comma' rest' further false false ih =
    let next : Entries = entry name' body' nested' after' comma' rest' in
    to_within (NoDeeperRow next) (NoDeeperRow (entry name body nested after (Some next_gap) next))
    (λ r. record { gap = gap; entries = entry name body nested after (Some r.gap) r.entries })
    (text_of gap ++ (entry_prefix name body nested ++ (text_of after ++ codes ","))) [] further
    (λ r h. omega (arith, h)) ih

taken_depth : (path : List Part) (n : ℕ) (gap : Gap) (es : Entries) → EachTo (NoDeeperRow es) (take_out path n gap es)
taken_depth path n gap none = tt
taken_depth path n gap (entry name body nested after None none) =
    out_when (NoDeeperRow (entry name body nested after None none)) (same_path (step n name) path)
    (taken_only gap name body nested after) (λ e. omega arith)
taken_depth path n gap (entry name body nested after None (entry name' body' nested' after' comma' rest')) = tt
taken_depth path n gap (entry name body nested after (Some next_gap) none) =
    out_when (NoDeeperRow (entry name body nested after (Some next_gap) none)) (same_path (step n name) path)
    (taken_first gap name body nested after next_gap none) (λ e. omega arith)
taken_depth path n gap (entry name body nested after (Some next_gap) (entry name' body' nested' after' comma' rest')) =
    two_depth gap name body nested after next_gap name' body' nested' after' comma' rest'
    (take_out path (n + 1) next_gap (entry name' body' nested' after' comma' rest'))
    (same_path (step n name) path) (is_last_named path (n + 1) (entry name' body' nested' after' comma' rest'))
    (taken_depth path (n + 1) next_gap (entry name' body' nested' after' comma' rest'))

pub removal_depth : (path : List Part) (body : Body) (es : Entries)
    → EachTo (NoDeeper (record { body = body; nested = es })) (removal path (record { body = body; nested = es }))
removal_depth path (scalar w) es = tt
removal_depth path (array first) es =
    to_within (NoDeeperRow es) (NoDeeper (record { body = array first; nested = es }))
    (λ r. record { body = array r.gap; nested = r.entries }) (codes "[") (codes "]") (take_out path 0 first es)
    (λ r h. omega (arith, h)) (taken_depth path 0 first es)
removal_depth path (inline first) es =
    to_within (NoDeeperRow es) (NoDeeper (record { body = inline first; nested = es }))
    (λ r. record { body = inline r.gap; nested = r.entries }) (codes "{") (codes "}") (take_out path 0 first es)
    (λ r h. omega (arith, h)) (taken_depth path 0 first es)

-- ---- in lines

clear_depth : (path : List Part) (r : Reading) (l : Line) → EachTo (NoDeeperLine l) (clear_line path r l)
clear_depth path r l = clear_cases (EachTo (NoDeeperLine l)) path r l tt (λ c e own. omega arith)

prefix_depth : (n : ℕ) (es : List Ended) (last : Line)
    → page_depth (drop_prefix n es last).to ≤ page_depth (record { ended = es; last = last })
prefix_depth zero [] last = omega arith
prefix_depth (suc m) [] last = omega arith
prefix_depth zero (e ∷ es) last = omega arith
prefix_depth (suc m) (e ∷ es) last = omega (arith, prefix_depth m es last)

drop_depth : (i n : ℕ) (es : List Ended) (last : Line)
    → page_depth (drop_lines i n es last).to ≤ page_depth (record { ended = es; last = last })
drop_depth i n [] last = prefix_depth n [] last
drop_depth zero n (e ∷ es) last = prefix_depth n (e ∷ es) last
drop_depth (suc j) n (e ∷ es) last = omega (arith, drop_depth j n es last)

-- ---- in the document

without_depth : (s : Document) (f : ℕ → ℕ) (o : Option ℕ)
    → EachTo {A = Document} (λ s'. depth s' ≤ depth s) (elim o [ None ↦ None | Some i ↦ without_lines s i (f i) ])
without_depth s f None = tt
without_depth s f (Some i) =
    in_document_depth s (Some (drop_lines i (f i) s.ended s.last)) (drop_depth i (f i) s.ended s.last)

pub remove_depth : (s : Document) (path : List Part) → EachTo (λ s'. depth s' ≤ depth s) (change s (remove path))
remove_depth s path =
    let P : Document → Type 0 = λ s'. depth s' ≤ depth s in
    to_or_else P _ _ (in_document_depth s (in_lines (clear_line path) start s.ended s.last)
    (pages_depth (clear_line path) (clear_depth path) start s.ended s.last))
    (to_or_else P _ _ (without_depth s (λ i. 1) (last_line (λ r l. is_own path r l.content) start (lines s)))
    (to_or_else P _ _ (without_depth s (λ i. suc (body_length (drop (suc i) (lines s))))
    (last_line (begins path) start (lines s)))
    (in_document_depth s (in_lines (in_line removal path) start s.ended s.last)
    (pages_depth (in_line removal path) (line_depths removal (λ more v. removal_depth more v.body v.nested) path) start
    s.ended s.last))))
