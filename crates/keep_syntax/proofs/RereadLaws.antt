-- What rereading stores is what is stored of the document with its lines replaced, and where the lines of that begin.
--
-- The document is split into the lines before the span, the lines in it, and those after it (`lines_of`). What is
-- stored is a list of pieces, one for each of these runs of lines; a piece is moved by the counts that come before it.
-- There are two cases: lines follow the span, and the new lines end with a newline (`flat_middle`, `starts_middle`), or
-- none do (`flat_end`, `starts_end`). In both, the pieces that are put together are those of the new document
-- (`reread_flat`), and so are the line starts (`reread_starts`) and the length (`reread_length`).
--
-- Theorem: `reread_is`: the syntax that rereading gives is that of the document with its lines replaced.
use Rattle.std.proofs.Common.{◌≡◌, ℕ, ◌+◌, ◌<◌, ◌≤◌, Bool, true, false, List, [], ◌∷◌, ◌++◌, length, map, refl, sym, ap}
use Rattle.std.proofs.Common.{subst, ◌∙◌, arith, append_assoc, inl, inr, lt-ltb, le-ltb, ltb-true, ltb-false}
use Rattle.std.specs.Prelude.{ltb, slice_range}
use Rattle.std.specs.List.{flat_map, AllByRecursion}
use Rattle.std.proofs.lemmas.List.{append-nil, length-append, map-append}
use Rattle.std.proofs.lemmas.Grind.{flat_map-append}
use Rattle.keep_types.specs.declared.leaf.Profile.{Profile}
use Rattle.keep_types.specs.declared.syntax.Span.{Span}
use Rattle.keep_syntax_store.specs.declared.moves.Counts.{Counts}
use Rattle.keep_syntax_store.specs.declared.parts.Parts.{Parts}
use Rattle.keep_syntax.specs.declared.syntax.Syntax.{Syntax}
use Rattle.keep_syntax.specs.Tree.{Line, Ended, Document, line_leaves, ended_leaves, bom_leaves, text}
use Rattle.keep_syntax.specs.Grammar.{IsEnded, IsDocument, Reads}
use Rattle.keep_syntax.specs.Numbered.{width, Count, first_line, next_line, after_lines}
use Rattle.keep_syntax_store.specs.Flat.{Flat, flat, empty}
use Rattle.keep_syntax_store.specs.Rereading.{LinesAscend, count_at, nothing, counts_at, counts_before, places_before}
use Rattle.keep_syntax_store.specs.Rereading.{IsPart, part_of, moved_flat, joined, appended, with_prefix, with_new}
use Rattle.keep_syntax_store.specs.Rereading.{with_back, replaced_flat, CanMove, prefix_starts, back_starts}
use Rattle.keep_syntax_store.specs.Rereading.{replaced_starts}
use Rattle.keep_syntax.specs.FlatLines.{flat_of, DocumentIs}
use Rattle.keep_syntax.specs.WholeLines.{empty_line, line_starts, lines_from, begin, starts_of, replaced}
use Rattle.keep_syntax_store.specs.Lifted.{origin, moved}
use Rattle.keep_syntax.specs.declared.reread.NewLines.{NewLines}
use Rattle.keep_syntax.specs.NewLines.{AreNewLines}
use Rattle.keep_syntax.specs.Contract.{IsSyntaxOf, CanReplace, MayReread}
use Rattle.keep_syntax.proofs.LoopLaws.{ok_is}
use Rattle.keep_syntax.proofs.DocumentLaws.{document_read}
use Rattle.keep_syntax.proofs.ReadLaws.{syntax_of, syntax_is}
use Rattle.keep_syntax.proofs.GrowthLaws.{width-append}
use Rattle.keep_syntax_store.proofs.Shared.{Before, From, all_prefix, if_false, if_true, map_same, part_after, part_all}
use Rattle.keep_syntax_store.proofs.Shared.{part_back, part_before, part_prefix, places_found, range_all, range_back}
use Rattle.keep_syntax_store.proofs.Shared.{range_prefix, same_count, stays, stays_flat}
use Rattle.keep_syntax.proofs.LineNumberingLaws.{after_lines-at, after_lines-statements, after_lines-parts}
use Rattle.keep_syntax.proofs.LineNumberingLaws.{after_lines-values}
use Rattle.keep_syntax.proofs.LineStartLaws.{HaveBytes}
use Rattle.keep_syntax.proofs.SplitLaws.{bytes_of, have_bytes, Split, document_split, text_length}
use Rattle.keep_syntax.proofs.PieceLaws.{bom_piece, ended_piece, lines_piece, flat_pieces, flat_lines, lines_replaced}
use Rattle.keep_syntax.proofs.PieceLaws.{lines_replaced_last, lines_moved, lines_ended}
use Rattle.keep_syntax.proofs.CountingLaws.{lines_ascend, before_piece, before_even, before_count, flat_before}
use Rattle.keep_syntax.proofs.CountingLaws.{counts_found, lines_even}

-- ---- what can be replaced

-- the lines of a document before those of a span, these, and those after
abbrev Lines : Profile → ℕ → Document → Span → List ℕ → Document → Type 0
Lines profile limit d whole bytes m = Split (length (text d)) (begin d) d.ended whole.start whole.end

pub lines_of : {profile : Profile} {limit : ℕ} {d : Document} {whole : Span} {bytes : List ℕ} {m : Document}
    → CanReplace profile limit d whole bytes m → Lines profile limit d whole bytes m
lines_of {profile} {limit} {d} {whole} {bytes} {m} h =
    subst (λ (s : Span). Split (length (text d)) (begin d) d.ended s.start s.end) h.whole_is
    (document_split profile d h.span h.valid h.low h.order h.within)

-- the place after the new lines
bytes_are : {profile : Profile} {limit : ℕ} {d : Document} {whole : Span} {bytes : List ℕ} {m : Document}
    → CanReplace profile limit d whole bytes m → length bytes ≡ bytes_of m.ended + width (line_leaves m.last)
bytes_are {m = m} h =
    omega (arith, ap length h.reads.spelled, text_length m, ap (λ (b : Bool). width (bom_leaves b)) h.bom)

-- ---- all that is stored

prefix_is : (profile : Profile) (d : Document) (prefix rest : List Ended) (place : ℕ) → IsDocument profile d
    → d.ended ≡ prefix ++ rest → place ≡ begin d + bytes_of prefix
    → with_prefix (flat_of d) place ≡ before_piece d prefix
prefix_is profile d prefix rest place valid e here =
    let c = after_lines (first_line d) prefix in
    let x = before_piece d prefix in
    let found =
    counts_found profile d prefix rest place valid e (omega (arith, here, after_lines-at (first_line d) prefix)) in
    let part : part_of nothing (counts_before (flat_of d) place) (flat_of d) ≡ x =
    ap (λ (k : Counts). part_of nothing k (flat_of d)) found
    ∙ ap (λ (f : Flat). part_of nothing (counts_at place x) f) (flat_before d prefix rest e)
    ∙ part_prefix x (lines_piece c rest d.last) place (before_even d prefix) in
    ap (λ (f : Flat). joined empty (moved_flat origin origin f)) part ∙ stays_flat x

new_is : (profile : Profile) (d m : Document) (prefix rest : List Ended) (place size : ℕ) → IsDocument profile d
    → d.ended ≡ prefix ++ rest → place ≡ begin d + bytes_of prefix → m.bom ≡ false
    → with_new (flat_of d) (flat_of m) place size
    ≡ joined (before_piece d prefix)
    (moved_flat origin (after_lines (first_line d) prefix) (lines_piece origin m.ended m.last))
new_is profile d m prefix rest place size valid e here bom =
    let c = after_lines (first_line d) prefix in
    let x = before_piece d prefix in
    let y = lines_piece origin m.ended m.last in
    let count : count_at place x ≡ c =
    before_count d prefix place (omega (arith, here, after_lines-at (first_line d) prefix)) in
    let part : part_of nothing (counts_at size (flat_of m)) (flat_of m) ≡ y =
    ap (λ (f : Flat). part_of nothing (counts_at size f) f) (flat_lines m bom)
    ∙ part_all y size (lines_even origin m.ended m.last) in
    ap (λ (f : Flat). appended f (flat_of m) nothing (counts_at size (flat_of m)) place)
    (prefix_is profile d prefix rest place valid e here)
    ∙ ap (λ (k : Count). joined x (moved_flat origin k (part_of nothing (counts_at size (flat_of m)) (flat_of m))))
    count
    ∙ ap (λ (f : Flat). joined x (moved_flat origin c f)) part

pub bytes_join : (xs ys : List Ended) → bytes_of (xs ++ ys) ≡ bytes_of xs + bytes_of ys
bytes_join xs ys =
    ap width (flat_map-append ended_leaves xs ys) ∙ width-append (flat_map ended_leaves xs) (flat_map ended_leaves ys)

after_join : (c : Count) (xs ys : List Ended) → after_lines c (xs ++ ys) ≡ after_lines (after_lines c xs) ys
after_join c [] ys = refl
after_join c (x ∷ xs) ys = after_join (next_line c x) xs ys

-- the count after the new lines
after_count : (d : Document) (prefix new : List Ended) (end : ℕ)
    → end ≡ (after_lines (after_lines (first_line d) prefix) new).at
    → count_at end (joined (before_piece d prefix) (ended_piece (after_lines (first_line d) prefix) new))
    ≡ after_lines (after_lines (first_line d) prefix) new
after_count d prefix new end e =
    let c0 = first_line d in
    let c = after_lines c0 prefix in
    let x = before_piece d prefix in
    let y = ended_piece c new in
    same_count (count_at end (joined x y)) (after_lines c new) e
    (omega (
      arith,
      length-append x.statements y.statements,
      after_lines-statements c0 prefix,
      after_lines-statements c new,
    ))
    (omega (arith, length-append x.keys y.keys, after_lines-parts c0 prefix, after_lines-parts c new))
    (omega (arith, length-append x.values y.values, after_lines-values c0 prefix, after_lines-values c new))

-- lines in the middle
pub flat_middle : (profile : Profile) (d m : Document) (prefix gone back : List Ended) (whole : Span) (len size end : ℕ)
    → IsDocument profile d → d.ended ≡ prefix ++ (gone ++ back) → whole.start ≡ begin d + bytes_of prefix
    → whole.end ≡ whole.start + bytes_of gone → m.bom ≡ false → m.last ≡ empty_line
    → end ≡ whole.start + bytes_of m.ended
    → with_back (flat_of d) (flat_of m) whole len size end
    ≡ joined (bom_piece d) (lines_piece (first_line d) (prefix ++ (m.ended ++ back)) d.last)
flat_middle profile d m prefix gone back whole len size end valid e here there bom last after =
    let c0 = first_line d in
    let c1 = after_lines c0 prefix in
    let c2 = after_lines c1 gone in
    let x = before_piece d prefix in
    let z = before_piece d (prefix ++ gone) in
    let f = flat_of d in
    let new : Flat = lines_piece origin m.ended empty_line in
    let rest : Flat = lines_piece c2 back d.last in
    let e2 : d.ended ≡ (prefix ++ gone) ++ back = e ∙ sym (append_assoc prefix gone back) in
    let c2_is : after_lines c0 (prefix ++ gone) ≡ c2 = after_join c0 prefix gone in
    let first : with_new f (flat_of m) whole.start size ≡ joined x (moved_flat origin c1 new) =
    new_is profile d m prefix (gone ++ back) whole.start size valid e here bom
    ∙ ap (λ (l : Line). joined x (moved_flat origin c1 (lines_piece origin m.ended l))) last in
    let new_at : count_at end (joined x (moved_flat origin c1 new)) ≡ after_lines c1 m.ended =
    ap (λ (g : Flat). count_at end (joined x g)) (lines_moved origin c1 m.ended empty_line ∙ lines_ended c1 m.ended)
    ∙ after_count d prefix m.ended end
    (omega (arith, after, here, after_lines-at c0 prefix, after_lines-at c1 m.ended)) in
    let old : counts_before f whole.end ≡ counts_at whole.end z =
    counts_found profile d (prefix ++ gone) back whole.end valid e2
    (omega (arith, there, here, after_lines-at c0 prefix, after_lines-at c1 gone, ap (λ (k : Count). k.at) c2_is)) in
    let old_at : count_at whole.end z ≡ c2 =
    before_count d (prefix ++ gone) whole.end
    (omega (arith, there, here, after_lines-at c0 prefix, after_lines-at c1 gone, ap (λ (k : Count). k.at) c2_is))
    ∙ c2_is in
    let f_is : f ≡ joined z rest =
    flat_before d (prefix ++ gone) back e2 ∙ ap (λ (k : Count). joined z (lines_piece k back d.last)) c2_is in
    let part : part_of (counts_at whole.end z) (counts_at len f) f ≡ rest =
    ap (λ (g : Flat). part_of (counts_at whole.end z) (counts_at len g) g) f_is
    ∙ part_back z rest whole.end len (before_even d (prefix ++ gone)) (lines_even c2 back d.last) in
    let before = joined x (moved_flat origin c1 new) in
    ap (λ (g : Flat). appended g f (counts_before f whole.end) (counts_at len f) end) first
    ∙ ap (λ (k : Counts). appended before f k (counts_at len f) end) old
    ∙ ap (λ (k : Count).
    joined before (moved_flat k (count_at end before) (part_of (counts_at whole.end z) (counts_at len f) f))) old_at
    ∙ ap (λ (k : Count). joined before (moved_flat c2 k (part_of (counts_at whole.end z) (counts_at len f) f))) new_at
    ∙ ap (λ (g : Flat). joined before (moved_flat c2 (after_lines c1 m.ended) g)) part
    ∙ lines_replaced d prefix gone m.ended back d.last

-- lines at the end
pub flat_end : (profile : Profile) (d m : Document) (prefix rest : List Ended) (whole : Span) (size : ℕ)
    → IsDocument profile d → d.ended ≡ prefix ++ rest → whole.start ≡ begin d + bytes_of prefix → m.bom ≡ false
    → with_new (flat_of d) (flat_of m) whole.start size
    ≡ joined (bom_piece d) (lines_piece (first_line d) (prefix ++ m.ended) m.last)
flat_end profile d m prefix rest whole size valid e here bom =
    new_is profile d m prefix rest whole.start size valid e here bom ∙ lines_replaced_last d prefix m.ended m.last

-- ---- where lines begin

-- of lines that end, without the place after them
abbrev begins : ℕ → List Ended → List ℕ
begins at [] = []
begins at (e ∷ es) = at ∷ begins (at + width (ended_leaves e)) es

starts_split : (at : ℕ) (xs ys : List Ended)
    → line_starts at (xs ++ ys) ≡ begins at xs ++ line_starts (at + bytes_of xs) ys
starts_split at [] ys = ap (λ n. line_starts n ys) (omega arith)
starts_split at (x ∷ xs) ys =
    ap (λ ns. at ∷ ns) (starts_split (at + width (ended_leaves x)) xs ys
    ∙ ap (λ n. begins (at + width (ended_leaves x)) xs ++ line_starts n ys)
    (let e : at + width (ended_leaves x) + bytes_of xs ≡ at + bytes_of (x ∷ xs) =
    omega (arith, width-append (ended_leaves x) (flat_map ended_leaves xs)) in e))

starts_alone : (at : ℕ) (xs : List Ended) → line_starts at xs ≡ begins at xs ++ (at + bytes_of xs) ∷ []
starts_alone at xs = ap (line_starts at) (sym (append-nil xs)) ∙ starts_split at xs []

begins_before : (at end : ℕ) (es : List Ended) → HaveBytes es → at + bytes_of es ≤ end → Before end (begins at es)
begins_before at end [] h k = tt
begins_before at end (e ∷ es) h k =
    let size = width-append (ended_leaves e) (flat_map ended_leaves es) in
    (omega (arith, h.0, k, size), begins_before (at + width (ended_leaves e)) end es h.1 (omega (arith, k, size)))

starts_from : (at : ℕ) (es : List Ended) → From at (line_starts at es)
starts_from at [] = omega arith
starts_from at (e ∷ es) = omega arith

-- from after one place to after another
begins_on : (old new k : ℕ) (es : List Ended) → map (moved old new) (begins (old + k) es) ≡ begins (new + k) es
begins_on old new k [] = refl
begins_on old new k (e ∷ es) =
    let w : ℕ = width (ended_leaves e) in
    ap (λ n. n ∷ map (moved old new) (begins (old + k + w) es))
    (let i : moved old new (old + k) ≡ new + k = omega arith in i)
    ∙ ap (λ n. (new + k) ∷ map (moved old new) (begins n es)) (let i : old + k + w ≡ old + (k + w) = omega arith in i)
    ∙ ap (λ ns. (new + k) ∷ ns) (begins_on old new (k + w) es)
    ∙ ap (λ n. (new + k) ∷ begins n es) (let i : new + (k + w) ≡ new + k + w = omega arith in i)

begins_moved : (old new : ℕ) (es : List Ended) → map (moved old new) (begins old es) ≡ begins new es
begins_moved old new es =
    ap (λ n. map (moved old new) (begins n es)) (let i : old ≡ old + 0 = omega arith in i) ∙ begins_on old new 0 es
    ∙ ap (λ n. begins n es) (let i : new + 0 ≡ new = omega arith in i)

starts_moved : (old new : ℕ) (es : List Ended) → map (moved old new) (line_starts old es) ≡ line_starts new es
starts_moved old new es =
    let last : moved old new (old + bytes_of es) ≡ new + bytes_of es = omega arith in
    ap (map (moved old new)) (starts_alone old es)
    ∙ map-append (moved old new) (begins old es) ((old + bytes_of es) ∷ [])
    ∙ ap (λ ns. ns ++ moved old new (old + bytes_of es) ∷ []) (begins_moved old new es)
    ∙ ap (λ n. begins new es ++ n ∷ []) last ∙ sym (starts_alone new es)

starts_count : (profile : Profile) (d : Document) (prefix rest : List Ended) (place : ℕ) → IsDocument profile d
    → d.ended ≡ prefix ++ rest → place ≡ begin d + bytes_of prefix
    → places_before place (starts_of d) ≡ length (begins (begin d) prefix)
starts_count profile d prefix rest place valid e here =
    let bytes =
    have_bytes profile prefix (all_prefix (IsEnded profile) prefix rest
    (subst (λ (es : List Ended). AllByRecursion (IsEnded profile) es) e valid.ended)) in
    ap (λ es. places_before place (line_starts (begin d) es)) e
    ∙ ap (places_before place) (starts_split (begin d) prefix rest)
    ∙ places_found place (begins (begin d) prefix) (line_starts (begin d + bytes_of prefix) rest)
    (begins_before (begin d) place prefix bytes (omega (arith, here)))
    (subst (λ (n : ℕ). From n (line_starts (begin d + bytes_of prefix) rest)) (sym here)
    (starts_from (begin d + bytes_of prefix) rest))

prefix_begins : (profile : Profile) (d : Document) (prefix rest : List Ended) (place : ℕ) → IsDocument profile d
    → d.ended ≡ prefix ++ rest → place ≡ begin d + bytes_of prefix
    → prefix_starts (starts_of d) place ≡ begins (begin d) prefix
prefix_begins profile d prefix rest place valid e here =
    let found = starts_count profile d prefix rest place valid e here in
    let part : slice_range (starts_of d) 0 (places_before place (starts_of d)) ≡ begins (begin d) prefix =
    ap (λ ns. slice_range ns 0 (places_before place (starts_of d)))
    (ap (line_starts (begin d)) e ∙ starts_split (begin d) prefix rest)
    ∙ range_prefix (begins (begin d) prefix) (line_starts (begin d + bytes_of prefix) rest)
    (places_before place (starts_of d)) found in
    ap (map (moved 0 0)) part ∙ map_same (moved 0 0) stays (begins (begin d) prefix)

back_begins : (profile : Profile) (d : Document) (prefix rest : List Ended) (place end : ℕ) → IsDocument profile d
    → d.ended ≡ prefix ++ rest → place ≡ begin d + bytes_of prefix
    → back_starts (starts_of d) place end ≡ line_starts end rest
back_begins profile d prefix rest place end valid e here =
    let found = starts_count profile d prefix rest place valid e here in
    let all : starts_of d ≡ begins (begin d) prefix ++ line_starts place rest =
    ap (line_starts (begin d)) e ∙ starts_split (begin d) prefix rest
    ∙ ap (λ n. begins (begin d) prefix ++ line_starts n rest) (sym here) in
    let part : slice_range (starts_of d) (places_before place (starts_of d)) (length (starts_of d))
    ≡ line_starts place rest =
    ap (λ ns. slice_range ns (places_before place (starts_of d)) (length (starts_of d))) all
    ∙ range_back (begins (begin d) prefix) (line_starts place rest) (places_before place (starts_of d))
    (length (starts_of d)) found (ap length all) in
    ap (map (moved place end)) part ∙ starts_moved place end rest

-- the new lines begin after those before, and so do all that come last
new_begins : (profile : Profile) (m : Document) (place size : ℕ) → IsDocument profile m → m.bom ≡ false
    → size ≡ bytes_of m.ended
    → map (moved 0 place) (slice_range (starts_of m) 0 (places_before size (starts_of m))) ≡ begins place m.ended
new_begins profile m place size valid bom e =
    let zero_is : begin m ≡ 0 = ap (λ (b : Bool). width (bom_leaves b)) bom in
    let found = starts_count profile m m.ended [] size valid (sym (append-nil m.ended)) (omega (arith, e, zero_is)) in
    let part : slice_range (starts_of m) 0 (places_before size (starts_of m)) ≡ begins (begin m) m.ended =
    ap (λ ns. slice_range ns 0 (places_before size (starts_of m))) (starts_alone (begin m) m.ended)
    ∙ range_prefix (begins (begin m) m.ended) ((begin m + bytes_of m.ended) ∷ []) (places_before size (starts_of m))
    found in
    ap (map (moved 0 place)) part ∙ ap (λ n. map (moved 0 place) (begins n m.ended)) zero_is
    ∙ begins_moved 0 place m.ended

last_begins : (m : Document) (place : ℕ) → m.bom ≡ false
    → map (moved 0 place) (slice_range (starts_of m) 0 (length (starts_of m))) ≡ line_starts place m.ended
last_begins m place bom =
    ap (map (moved 0 place)) (range_all (starts_of m) (length (starts_of m)) refl)
    ∙ ap (λ (b : Bool). map (moved 0 place) (line_starts (width (bom_leaves b)) m.ended)) bom
    ∙ starts_moved 0 place m.ended

pub starts_middle : (profile : Profile) (d m : Document) (prefix gone back : List Ended) (whole : Span) (size end : ℕ)
    → IsDocument profile d → IsDocument profile m → d.ended ≡ prefix ++ (gone ++ back)
    → whole.start ≡ begin d + bytes_of prefix → whole.end ≡ whole.start + bytes_of gone → m.bom ≡ false
    → size ≡ bytes_of m.ended → end ≡ whole.start + size
    → (prefix_starts (starts_of d) whole.start
    ++ map (moved 0 whole.start) (slice_range (starts_of m) 0 (places_before size (starts_of m))))
    ++ back_starts (starts_of d) whole.end end
    ≡ line_starts (begin d) (prefix ++ (m.ended ++ back))
starts_middle profile d m prefix gone back whole size end valid fine e here there bom long after =
    let e2 : d.ended ≡ (prefix ++ gone) ++ back = e ∙ sym (append_assoc prefix gone back) in
    let x = begins (begin d) prefix in
    let y = begins whole.start m.ended in
    let there2 : whole.end ≡ begin d + bytes_of (prefix ++ gone) = omega (arith, there, here, bytes_join prefix gone) in
    ap (λ ns.
    (ns ++ map (moved 0 whole.start) (slice_range (starts_of m) 0 (places_before size (starts_of m))))
    ++ back_starts (starts_of d) whole.end end) (prefix_begins profile d prefix (gone ++ back) whole.start valid e here)
    ∙ ap (λ ns. (x ++ ns) ++ back_starts (starts_of d) whole.end end)
    (new_begins profile m whole.start size fine bom long)
    ∙ ap (λ ns. (x ++ y) ++ ns) (back_begins profile d (prefix ++ gone) back whole.end end valid e2 there2)
    ∙ append_assoc x y (line_starts end back)
    ∙ sym (starts_split (begin d) prefix (m.ended ++ back)
    ∙ ap (λ n. x ++ line_starts n (m.ended ++ back)) (sym here)
    ∙ ap (λ ns. x ++ ns) (starts_split whole.start m.ended back)
    ∙ ap (λ n. x ++ (y ++ line_starts n back))
    (let i : whole.start + bytes_of m.ended ≡ end = omega (arith, long, after) in i))

pub starts_end : (profile : Profile) (d m : Document) (prefix rest : List Ended) (whole : Span) → IsDocument profile d
    → d.ended ≡ prefix ++ rest → whole.start ≡ begin d + bytes_of prefix → m.bom ≡ false
    → prefix_starts (starts_of d) whole.start
    ++ map (moved 0 whole.start) (slice_range (starts_of m) 0 (length (starts_of m)))
    ≡ line_starts (begin d) (prefix ++ m.ended)
starts_end profile d m prefix rest whole valid e here bom =
    let x = begins (begin d) prefix in
    ap (λ ns. ns ++ map (moved 0 whole.start) (slice_range (starts_of m) 0 (length (starts_of m))))
    (prefix_begins profile d prefix rest whole.start valid e here)
    ∙ ap (λ ns. x ++ ns) (last_begins m whole.start bom)
    ∙ sym (starts_split (begin d) prefix m.ended ∙ ap (λ n. x ++ line_starts n m.ended) (sym here))

-- ---- all of it

-- the lines of the new document
pub middle_lines : {profile : Profile} {limit : ℕ} {d : Document} {whole : Span} {bytes : List ℕ} {m : Document}
    (h : CanReplace profile limit d whole bytes m)
    → (replaced d whole m).ended ≡ (lines_of h).prefix ++ (m.ended ++ (lines_of h).back)
middle_lines {d = d} {whole = whole} {m = m} h =
    ap (λ es. es ++ (m.ended ++ lines_from whole.end (begin d) d.ended)) (lines_of h).before
    ∙ ap (λ es. (lines_of h).prefix ++ (m.ended ++ es)) (lines_of h).from

pub end_lines : {profile : Profile} {limit : ℕ} {d : Document} {whole : Span} {bytes : List ℕ} {m : Document}
    (h : CanReplace profile limit d whole bytes m) → length (text d) ≤ whole.end
    → (replaced d whole m).ended ≡ (lines_of h).prefix ++ m.ended
end_lines {m = m} h past =
    middle_lines h ∙ ap (λ es. (lines_of h).prefix ++ (m.ended ++ es)) ((lines_of h).none past)
    ∙ ap (λ es. (lines_of h).prefix ++ es) (append-nil m.ended)

-- the new lines end with a newline where others follow
pub empty_last : {profile : Profile} {limit : ℕ} {d : Document} {whole : Span} {bytes : List ℕ} {m : Document}
    → CanReplace profile limit d whole bytes m → whole.end < length (text d) → m.last ≡ empty_line
empty_last h more = elim h.closed [
  | inl e ↦ e
  | inr e ↦ absurd (omega (arith, e, more))
]

pub reread_flat : {profile : Profile} {limit : ℕ} {d : Document} {whole : Span} {bytes : List ℕ} {m : Document}
    (h : CanReplace profile limit d whole bytes m) (len size end : ℕ) → len ≡ length (text d)
    → size ≡ length bytes → end ≡ whole.start + size
    → replaced_flat (flat_of d) (flat_of m) whole len size end ≡ flat_of (replaced d whole m)
reread_flat {profile} {limit} {d} {whole} {bytes} {m} h len size end long wide after =
    by (ltb whole.end len) refl
  where
    s : Split (length (text d)) (begin d) d.ended whole.start whole.end
    s = lines_of h

    r : Document
    r = replaced d whole m

    pieces : (es : List Ended) (l : Line) → r.ended ≡ es → r.last ≡ l
        → flat_of r ≡ joined (bom_piece d) (lines_piece (first_line d) es l)
    pieces es l e k =
        flat_pieces r ∙ ap (λ (xs : List Ended). joined (bom_piece d) (lines_piece (first_line d) xs r.last)) e
        ∙ ap (λ (x : Line). joined (bom_piece d) (lines_piece (first_line d) es x)) k

    by : (b : Bool) → ltb whole.end len ≡ b → replaced_flat (flat_of d) (flat_of m) whole len size end ≡ flat_of r
    by true t =
        let more : whole.end < length (text d) = omega (arith, ltb-true whole.end len t, long) in
        let last = empty_last h more in
        if_true (ltb whole.end len) _ _ t
        ∙ flat_middle profile d m s.prefix s.gone s.back whole len size end h.valid s.all s.start_is (s.end_is more)
        h.bom last (omega (arith, after, wide, bytes_are h, ap (λ (l : Line). width (line_leaves l)) last))
        ∙ sym (pieces (s.prefix ++ (m.ended ++ s.back)) d.last (middle_lines h)
        (if_true (ltb whole.end (length (text d))) _ _ (lt-ltb whole.end (length (text d)) more)))
    by false t =
        let past : length (text d) ≤ whole.end = omega (arith, ltb-false whole.end len t, long) in
        if_false (ltb whole.end len) _ _ t
        ∙ flat_end profile d m s.prefix (s.gone ++ s.back) whole size h.valid s.all s.start_is h.bom
        ∙ sym (pieces (s.prefix ++ m.ended) m.last (end_lines h past)
        (if_false (ltb whole.end (length (text d))) _ _ (le-ltb whole.end (length (text d)) past)))

pub reread_starts : {profile : Profile} {limit : ℕ} {d : Document} {whole : Span} {bytes : List ℕ} {m : Document}
    (h : CanReplace profile limit d whole bytes m) (len size end : ℕ) → len ≡ length (text d)
    → size ≡ length bytes → end ≡ whole.start + size
    → replaced_starts (starts_of d) (starts_of m) whole len size end ≡ starts_of (replaced d whole m)
reread_starts {profile} {limit} {d} {whole} {bytes} {m} h len size end long wide after =
    by (ltb whole.end len) refl
  where
    s : Split (length (text d)) (begin d) d.ended whole.start whole.end
    s = lines_of h

    by : (b : Bool) → ltb whole.end len ≡ b
        → replaced_starts (starts_of d) (starts_of m) whole len size end ≡ starts_of (replaced d whole m)
    by true t =
        let more : whole.end < length (text d) = omega (arith, ltb-true whole.end len t, long) in
        let last = empty_last h more in
        if_true (ltb whole.end len) _ _ t
        ∙ starts_middle profile d m s.prefix s.gone s.back whole size end h.valid h.reads.valid s.all s.start_is
        (s.end_is more) h.bom (omega (arith, wide, bytes_are h, ap (λ (l : Line). width (line_leaves l)) last)) after
        ∙ sym (ap (line_starts (begin d)) (middle_lines h))
    by false t =
        let past : length (text d) ≤ whole.end = omega (arith, ltb-false whole.end len t, long) in
        if_false (ltb whole.end len) _ _ t
        ∙ starts_end profile d m s.prefix (s.gone ++ s.back) whole h.valid s.all s.start_is h.bom
        ∙ sym (ap (line_starts (begin d)) (end_lines h past))

pub reread_length : {profile : Profile} {limit : ℕ} {d : Document} {whole : Span} {bytes : List ℕ} {m : Document}
    (h : CanReplace profile limit d whole bytes m) (len size end : ℕ) → len ≡ length (text d)
    → size ≡ length bytes → end ≡ whole.start + size → moved whole.end end len ≡ length (text (replaced d whole m))
reread_length {profile} {limit} {d} {whole} {bytes} {m} h len size end long wide after =
    by (ltb whole.end len) refl
  where
    s : Split (length (text d)) (begin d) d.ended whole.start whole.end
    s = lines_of h

    r : Document
    r = replaced d whole m

    by : (b : Bool) → ltb whole.end len ≡ b → moved whole.end end len ≡ length (text r)
    by true t =
        let more : whole.end < length (text d) = omega (arith, ltb-true whole.end len t, long) in
        let last = ap (λ (l : Line). width (line_leaves l)) (empty_last h more) in
        let same =
        ap (λ (l : Line). width (line_leaves l))
        (if_true (ltb whole.end (length (text d))) d.last m.last (lt-ltb whole.end (length (text d)) more)) in
        omega (
          arith,
          long,
          wide,
          after,
          last,
          same,
          bytes_are h,
          text_length d,
          text_length r,
          s.start_is,
          s.end_is more,
          ap bytes_of s.all,
          ap bytes_of (middle_lines h),
          bytes_join s.prefix (s.gone ++ s.back),
          bytes_join s.gone s.back,
          bytes_join s.prefix (m.ended ++ s.back),
          bytes_join m.ended s.back,
        )
    by false t =
        let past : length (text d) ≤ whole.end = omega (arith, ltb-false whole.end len t, long) in
        let same =
        ap (λ (l : Line). width (line_leaves l))
        (if_false (ltb whole.end (length (text d))) d.last m.last (le-ltb whole.end (length (text d)) past)) in
        omega (
          arith,
          long,
          wide,
          after,
          past,
          same,
          bytes_are h,
          text_length r,
          s.start_is,
          ap bytes_of (end_lines h past),
          bytes_join s.prefix m.ended,
        )

-- ---- what can be taken

pub can_move : {profile : Profile} {limit : ℕ} {d : Document} {whole : Span} {bytes : List ℕ} {m : Document}
    (h : CanReplace profile limit d whole bytes m) (len : ℕ) → len ≡ length (text d) → CanMove (flat_of d) whole len
can_move {profile} {limit} {d} {whole} {bytes} {m} h len long =
    let s = lines_of h in
    let c0 = first_line d in
    let c1 = after_lines c0 s.prefix in
    let x = before_piece d s.prefix in
    let y = lines_piece c1 (s.gone ++ s.back) d.last in
    let start =
    counts_found profile d s.prefix (s.gone ++ s.back) whole.start h.valid s.all
    (omega (arith, s.start_is, after_lines-at c0 s.prefix)) in
    let z = before_piece d (s.prefix ++ s.gone) in
    let rest = lines_piece (after_lines c0 (s.prefix ++ s.gone)) s.back d.last in
    let e2 : d.ended ≡ (s.prefix ++ s.gone) ++ s.back = s.all ∙ sym (append_assoc s.prefix s.gone s.back) in
    record {
      order = subst (λ (f : Flat). LinesAscend 0 f.statements) (sym (flat_pieces d))
          (lines_ascend 0 c0 d.ended d.last (omega arith));
      prefix = subst (λ (k : Counts). IsPart nothing k (flat_of d)) (sym start)
          (subst (λ (f : Flat). IsPart nothing (counts_at whole.start x) f)
          (sym (flat_before d s.prefix (s.gone ++ s.back) s.all)) (part_before x y whole.start));
      back = λ more.
          let there = s.end_is (omega (arith, more, long)) in
          let end =
          counts_found profile d (s.prefix ++ s.gone) s.back whole.end h.valid e2
          (omega (arith, there, s.start_is, bytes_join s.prefix s.gone, after_lines-at c0 (s.prefix ++ s.gone))) in
          subst (λ (k : Counts). IsPart k (counts_at len (flat_of d)) (flat_of d)) (sym end)
          (subst (λ (f : Flat). IsPart (counts_at whole.end z) (counts_at len f) f)
          (sym (flat_before d (s.prefix ++ s.gone) s.back e2)) (part_after z rest whole.end len));
    }

-- ---- the syntax

-- the new lines were read as this document
fresh_is : {profile : Profile} {limit : ℕ} {bytes : List ℕ} {g : Flat} {ms : List ℕ} {m : Document}
    (h : DocumentIs profile limit bytes g ms) → Reads profile limit bytes m → h.document ≡ m
fresh_is {profile} {limit} {bytes} {g} {ms} {m} h r =
    ok_is h.document m (sym h.is_read ∙ document_read profile limit bytes m r)

pub reread_is : {profile : Profile} {limit : ℕ} {d : Document} {whole : Span} {bytes : List ℕ} {m : Document}
    (s : Syntax) (new : NewLines) (p : Parts) (ls : List ℕ) (len : ℕ) → IsSyntaxOf s d
    → CanReplace profile limit d whole bytes m → AreNewLines profile limit bytes s.lines s.len whole new
    → flat p ≡ replaced_flat (flat s.parts) (flat new.parts) whole s.len new.size new.end → ls ≡ new.starts
    → len ≡ new.len → IsSyntaxOf (syntax_of p ls len) (replaced d whole m)
reread_is {profile} {limit} {d} {whole} {bytes} {m} s new p ls len is h are parts lines long =
    let size = new.size in
    let end = new.end in
    let same : are.read.document ≡ m = fresh_is are.read h.reads in
    let g_is : flat new.parts ≡ flat_of m = are.read.grows.stored ∙ ap flat_of same in
    let begins_are : are.begins ≡ starts_of m = are.read.lines ∙ ap starts_of same in
    syntax_is (syntax_of p ls len) (replaced d whole m)
    (parts ∙ ap (λ (f : Flat). replaced_flat f (flat new.parts) whole s.len size end) is.stored
    ∙ ap (λ (f : Flat). replaced_flat (flat_of d) f whole s.len size end) g_is
    ∙ reread_flat h s.len size end is.len are.size are.end)
    (lines ∙ are.starts_are ∙ ap (λ (ns : List ℕ). replaced_starts ns are.begins whole s.len size end) is.lines
    ∙ ap (λ (ns : List ℕ). replaced_starts (starts_of d) ns whole s.len size end) begins_are
    ∙ reread_starts h s.len size end is.len are.size are.end)
    (long ∙ are.len_is ∙ reread_length h s.len size end is.len are.size are.end)

pub may_move : {profile : Profile} {limit : ℕ} {s : Syntax} {whole : Span} {bytes : List ℕ}
    → MayReread profile limit s whole bytes → CanMove (flat s.parts) whole s.len
may_move {s = s} {whole = whole} h =
    subst (λ (f : Flat). CanMove f whole s.len) (sym h.is.stored) (can_move h.can s.len h.is.len)
