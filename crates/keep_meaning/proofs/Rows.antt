-- The definitions on small documents.
--
-- Each document is written out as a tree, by the short names at the top; the comment above a row has its text. A row
-- computes one definition on it: the first fault (`fault_in`), the paths of the nodes in their order (`node_paths`),
-- what is known of each (`infos_in`), where their values and first key parts are (`spans_in`), or the children of one
-- (`children`). There is no induction and no lemma. A change of a definition that shows on one of these documents makes
-- a row fail.
--
-- Each row is a theorem of its own.
use Rattle.std.proofs.Common.{◌≡◌, ℕ, Bool, true, false, List, [], ◌∷◌, length, refl, Option, Some, None}
use Rattle.std.specs.Prelude.{codes, map, take, slice_get}
use Rattle.keep_types.specs.declared.leaf.Leaf.{Leaf}
use Rattle.keep_types.specs.declared.leaf.Leaf.TheVariants as leaf
use Rattle.keep_syntax.specs.declared.fault.Why.{Why}
use Rattle.keep_syntax.specs.declared.fault.Why.TheVariants as why
use Rattle.keep_types.specs.declared.syntax.Span.{Span}
use Rattle.keep_syntax.specs.Numbered as syntax
use Rattle.keep_syntax.specs.Tree.{Written, Gap, Further, Key, Name, Body, scalar, array, inline, Entries, none, entry}
use Rattle.keep_syntax.specs.Tree.{Value, Content, blank, keyval, header, element, Line, Ended, Document}
use Rattle.keep_types.specs.declared.node.Kind.{Kind}
use Rattle.keep_types.specs.declared.node.Kind.TheVariants as kind
use Rattle.keep_types.specs.declared.node.Origin.{Origin}
use Rattle.keep_types.specs.declared.node.Origin.TheVariants as origin
use Rattle.keep_types.specs.declared.node.NodeInfo.{NodeInfo}
use Rattle.keep_path.specs.Path.{key, index}
use Rattle.keep_meaning.specs.Meaning.{mentions_in}
use Rattle.keep_meaning.specs.Nodes.{node_paths, nodes_in, infos_in, value_span_of, key_span_of, children, node_number}
use Rattle.keep_meaning.specs.Faults.{FaultAt, fault_in, fault_in_value}

abbrev w : Leaf → List ℕ → Written
w l t = record { leaf = l; text = t }

abbrev further : Gap → Gap → Written → Further
further b a p = record { before = b; after = a; part = p }

abbrev akey : Written → List Further → Key
akey f m = record { first = f; more = m }

abbrev aname : Key → Gap → Gap → Name
aname k b a = record { key = k; before = b; after = a }

abbrev avalue : Body → Entries → Value
avalue b i = record { body = b; nested = i }

abbrev aline : Gap → Content → Gap → Option Written → Line
aline b c a m = record { before = b; content = c; after = a; comment = m }

abbrev anended : Line → Written → Ended
anended l n = record { line = l; newline = n }

abbrev adoc : Bool → List Ended → Line → Document
adoc b e l = record { bom = b; ended = e; last = l }

abbrev span : ℕ → ℕ → Option Span
span s e = Some (record { start = s; end = e })

abbrev info : Kind → Option ℕ → ℕ → Bool → Origin → NodeInfo
info k n m p at = record { kind = k; key = n; marks = m; passed = p; origin = at }

-- where the value of each node is, and the first key part that names it
abbrev spans_in : Document → List (Option Span × Option Span)
spans_in s = map (λ n. (value_span_of (syntax.values s) n, key_span_of (syntax.parts s) n)) (nodes_in s)

abbrev fault : ℕ → Why → Option FaultAt
fault at why = Some (record { at = at; why = why })

-- `[[a]]<LF>[a.s]<LF>x.y = 1<LF>`
below_element-ok : fault_in (adoc false
    ((anended (aline [] (element [] (akey (w leaf.BareKey (codes "a")) []) []) [] None) (w leaf.Newline (10 ∷ [])))
    ∷ (anended (aline [] (header []
    (akey (w leaf.BareKey (codes "a")) ((further [] [] (w leaf.BareKey (codes "s"))) ∷ [])) []) [] None)
    (w leaf.Newline (10 ∷ []))) ∷ (anended
    (aline [] (keyval (aname (akey (w leaf.BareKey (codes "x")) ((further [] [] (w leaf.BareKey (codes "y"))) ∷ []))
    ((w leaf.Ws (codes " ")) ∷ []) ((w leaf.Ws (codes " ")) ∷ [])) (avalue (scalar (w leaf.Integer (codes "1"))) none))
    [] None) (w leaf.Newline (10 ∷ []))) ∷ []) (aline [] blank [] None)) ≡ None
below_element-ok = refl

-- `[[a]]<LF>[a.s]<LF>x.y = 1<LF>`
below_element-paths : node_paths
    (mentions_in (adoc false ((anended (aline [] (element [] (akey (w leaf.BareKey (codes "a")) []) []) [] None)
    (w leaf.Newline (10 ∷ []))) ∷ (anended
    (aline [] (header [] (akey (w leaf.BareKey (codes "a")) ((further [] [] (w leaf.BareKey (codes "s"))) ∷ [])) []) []
    None) (w leaf.Newline (10 ∷ [])))
    ∷ (anended (aline [] (keyval (aname
    (akey (w leaf.BareKey (codes "x")) ((further [] [] (w leaf.BareKey (codes "y"))) ∷ []))
    ((w leaf.Ws (codes " ")) ∷ []) ((w leaf.Ws (codes " ")) ∷ [])) (avalue (scalar (w leaf.Integer (codes "1"))) none))
    [] None) (w leaf.Newline (10 ∷ []))) ∷ []) (aline [] blank [] None))) ≡ [] ∷ (key (codes "a") ∷ [])
    ∷ (key (codes "a") ∷ index 0 ∷ []) ∷ (key (codes "a") ∷ index 0 ∷ key (codes "s") ∷ [])
    ∷ (key (codes "a") ∷ index 0 ∷ key (codes "s") ∷ key (codes "x") ∷ [])
    ∷ (key (codes "a") ∷ index 0 ∷ key (codes "s") ∷ key (codes "x") ∷ key (codes "y") ∷ []) ∷ []
below_element-paths = refl

-- `[[a]]<LF>[a.s]<LF>x.y = 1<LF>`
below_element-infos : infos_in
    (adoc false ((anended (aline [] (element [] (akey (w leaf.BareKey (codes "a")) []) []) [] None)
    (w leaf.Newline (10 ∷ []))) ∷ (anended
    (aline [] (header [] (akey (w leaf.BareKey (codes "a")) ((further [] [] (w leaf.BareKey (codes "s"))) ∷ [])) []) []
    None) (w leaf.Newline (10 ∷ [])))
    ∷ (anended (aline [] (keyval (aname
    (akey (w leaf.BareKey (codes "x")) ((further [] [] (w leaf.BareKey (codes "y"))) ∷ []))
    ((w leaf.Ws (codes " ")) ∷ []) ((w leaf.Ws (codes " ")) ∷ [])) (avalue (scalar (w leaf.Integer (codes "1"))) none))
    [] None) (w leaf.Newline (10 ∷ []))) ∷ []) (aline [] blank [] None)) ≡
    info kind.Table None 0 false origin.Root
    ∷ info kind.Tables (Some 0) 2 false origin.Tables
    ∷ info kind.Table None 0 true (origin.Element 0)
    ∷ info kind.Table (Some 2) 1 false (origin.Header 1)
    ∷ info kind.Table (Some 3) 1 false (origin.Dotted 0)
    ∷ info kind.Integer (Some 4) 1 false (origin.Value 0)
    ∷ []
below_element-infos = refl

-- `[[a]]<LF>[a.s]<LF>x.y = 1<LF>`
below_element-spans : spans_in
    (adoc false ((anended (aline [] (element [] (akey (w leaf.BareKey (codes "a")) []) []) [] None)
    (w leaf.Newline (10 ∷ []))) ∷ (anended
    (aline [] (header [] (akey (w leaf.BareKey (codes "a")) ((further [] [] (w leaf.BareKey (codes "s"))) ∷ [])) []) []
    None) (w leaf.Newline (10 ∷ [])))
    ∷ (anended (aline [] (keyval (aname
    (akey (w leaf.BareKey (codes "x")) ((further [] [] (w leaf.BareKey (codes "y"))) ∷ []))
    ((w leaf.Ws (codes " ")) ∷ []) ((w leaf.Ws (codes " ")) ∷ [])) (avalue (scalar (w leaf.Integer (codes "1"))) none))
    [] None) (w leaf.Newline (10 ∷ []))) ∷ []) (aline [] blank [] None)) ≡
    (None, None)
    ∷ (None, span 2 3)
    ∷ (None, None)
    ∷ (None, span 9 10)
    ∷ (None, span 12 13)
    ∷ (span 18 19, span 14 15)
    ∷ []
below_element-spans = refl

-- `[[a]]<LF>[a.s]<LF>x.y = 1<LF>`
below_element-children : children (key (codes "a") ∷ index 0 ∷ key (codes "s") ∷ [])
    (node_paths (mentions_in (adoc false
    ((anended (aline [] (element [] (akey (w leaf.BareKey (codes "a")) []) []) [] None) (w leaf.Newline (10 ∷ [])))
    ∷ (anended (aline [] (header []
    (akey (w leaf.BareKey (codes "a")) ((further [] [] (w leaf.BareKey (codes "s"))) ∷ [])) []) [] None)
    (w leaf.Newline (10 ∷ []))) ∷ (anended
    (aline [] (keyval (aname (akey (w leaf.BareKey (codes "x")) ((further [] [] (w leaf.BareKey (codes "y"))) ∷ []))
    ((w leaf.Ws (codes " ")) ∷ []) ((w leaf.Ws (codes " ")) ∷ [])) (avalue (scalar (w leaf.Integer (codes "1"))) none))
    [] None) (w leaf.Newline (10 ∷ []))) ∷ []) (aline [] blank [] None))))
    ≡ (key (codes "a") ∷ index 0 ∷ key (codes "s") ∷ key (codes "x") ∷ []) ∷ []
below_element-children = refl

-- `a = [1, [2], {b.c = true}]<LF>d.e = "x"<LF>d.f = {}<LF>`
nested-ok : fault_in (adoc false
    ((anended (aline [] (keyval (aname (akey (w leaf.BareKey (codes "a")) []) ((w leaf.Ws (codes " ")) ∷ [])
    ((w leaf.Ws (codes " ")) ∷ []))
    (avalue (array []) (entry None (scalar (w leaf.Integer (codes "1"))) none [] (Some ((w leaf.Ws (codes " ")) ∷ []))
    (entry None (array []) (entry None (scalar (w leaf.Integer (codes "2"))) none [] None none) []
    (Some ((w leaf.Ws (codes " ")) ∷ []))
    (entry None (inline []) (entry
    (Some (aname (akey (w leaf.BareKey (codes "b")) ((further [] [] (w leaf.BareKey (codes "c"))) ∷ []))
    ((w leaf.Ws (codes " ")) ∷ []) ((w leaf.Ws (codes " ")) ∷ []))) (scalar (w leaf.Boolean (codes "true"))) none []
    None none) [] None none))))) [] None) (w leaf.Newline (10 ∷ [])))
    ∷ (anended (aline [] (keyval (aname
    (akey (w leaf.BareKey (codes "d")) ((further [] [] (w leaf.BareKey (codes "e"))) ∷ []))
    ((w leaf.Ws (codes " ")) ∷ []) ((w leaf.Ws (codes " ")) ∷ []))
    (avalue (scalar (w leaf.Basic (34 ∷ 120 ∷ 34 ∷ []))) none)) [] None) (w leaf.Newline (10 ∷ [])))
    ∷ (anended (aline [] (keyval (aname
    (akey (w leaf.BareKey (codes "d")) ((further [] [] (w leaf.BareKey (codes "f"))) ∷ []))
    ((w leaf.Ws (codes " ")) ∷ []) ((w leaf.Ws (codes " ")) ∷ [])) (avalue (inline []) none)) [] None)
    (w leaf.Newline (10 ∷ []))) ∷ []) (aline [] blank [] None)) ≡ None
nested-ok = refl

-- `a = [1, [2], {b.c = true}]<LF>d.e = "x"<LF>d.f = {}<LF>`
nested-paths : node_paths (mentions_in
    (adoc false ((anended (aline []
    (keyval (aname (akey (w leaf.BareKey (codes "a")) []) ((w leaf.Ws (codes " ")) ∷ []) ((w leaf.Ws (codes " ")) ∷ []))
    (avalue (array []) (entry None (scalar (w leaf.Integer (codes "1"))) none [] (Some ((w leaf.Ws (codes " ")) ∷ []))
    (entry None (array []) (entry None (scalar (w leaf.Integer (codes "2"))) none [] None none) []
    (Some ((w leaf.Ws (codes " ")) ∷ []))
    (entry None (inline []) (entry
    (Some (aname (akey (w leaf.BareKey (codes "b")) ((further [] [] (w leaf.BareKey (codes "c"))) ∷ []))
    ((w leaf.Ws (codes " ")) ∷ []) ((w leaf.Ws (codes " ")) ∷ []))) (scalar (w leaf.Boolean (codes "true"))) none []
    None none) [] None none))))) [] None) (w leaf.Newline (10 ∷ [])))
    ∷ (anended (aline [] (keyval (aname
    (akey (w leaf.BareKey (codes "d")) ((further [] [] (w leaf.BareKey (codes "e"))) ∷ []))
    ((w leaf.Ws (codes " ")) ∷ []) ((w leaf.Ws (codes " ")) ∷ []))
    (avalue (scalar (w leaf.Basic (34 ∷ 120 ∷ 34 ∷ []))) none)) [] None) (w leaf.Newline (10 ∷ [])))
    ∷ (anended (aline [] (keyval (aname
    (akey (w leaf.BareKey (codes "d")) ((further [] [] (w leaf.BareKey (codes "f"))) ∷ []))
    ((w leaf.Ws (codes " ")) ∷ []) ((w leaf.Ws (codes " ")) ∷ [])) (avalue (inline []) none)) [] None)
    (w leaf.Newline (10 ∷ []))) ∷ []) (aline [] blank [] None))) ≡ [] ∷ (key (codes "a") ∷ [])
    ∷ (key (codes "a") ∷ index 0 ∷ []) ∷ (key (codes "a") ∷ index 1 ∷ [])
    ∷ (key (codes "a") ∷ index 1 ∷ index 0 ∷ []) ∷ (key (codes "a") ∷ index 2 ∷ [])
    ∷ (key (codes "a") ∷ index 2 ∷ key (codes "b") ∷ [])
    ∷ (key (codes "a") ∷ index 2 ∷ key (codes "b") ∷ key (codes "c") ∷ []) ∷ (key (codes "d") ∷ [])
    ∷ (key (codes "d") ∷ key (codes "e") ∷ []) ∷ (key (codes "d") ∷ key (codes "f") ∷ []) ∷ []
nested-paths = refl

-- `a = [1, [2], {b.c = true}]<LF>d.e = "x"<LF>d.f = {}<LF>`
nested-infos : infos_in (adoc false
    ((anended (aline [] (keyval (aname (akey (w leaf.BareKey (codes "a")) []) ((w leaf.Ws (codes " ")) ∷ [])
    ((w leaf.Ws (codes " ")) ∷ []))
    (avalue (array []) (entry None (scalar (w leaf.Integer (codes "1"))) none [] (Some ((w leaf.Ws (codes " ")) ∷ []))
    (entry None (array []) (entry None (scalar (w leaf.Integer (codes "2"))) none [] None none) []
    (Some ((w leaf.Ws (codes " ")) ∷ []))
    (entry None (inline []) (entry
    (Some (aname (akey (w leaf.BareKey (codes "b")) ((further [] [] (w leaf.BareKey (codes "c"))) ∷ []))
    ((w leaf.Ws (codes " ")) ∷ []) ((w leaf.Ws (codes " ")) ∷ []))) (scalar (w leaf.Boolean (codes "true"))) none []
    None none) [] None none))))) [] None) (w leaf.Newline (10 ∷ [])))
    ∷ (anended (aline [] (keyval (aname
    (akey (w leaf.BareKey (codes "d")) ((further [] [] (w leaf.BareKey (codes "e"))) ∷ []))
    ((w leaf.Ws (codes " ")) ∷ []) ((w leaf.Ws (codes " ")) ∷ []))
    (avalue (scalar (w leaf.Basic (34 ∷ 120 ∷ 34 ∷ []))) none)) [] None) (w leaf.Newline (10 ∷ [])))
    ∷ (anended (aline [] (keyval (aname
    (akey (w leaf.BareKey (codes "d")) ((further [] [] (w leaf.BareKey (codes "f"))) ∷ []))
    ((w leaf.Ws (codes " ")) ∷ []) ((w leaf.Ws (codes " ")) ∷ [])) (avalue (inline []) none)) [] None)
    (w leaf.Newline (10 ∷ []))) ∷ []) (aline [] blank [] None)) ≡
    info kind.Table None 0 false origin.Root
    ∷ info kind.Array (Some 0) 1 false (origin.Value 0)
    ∷ info kind.Integer None 0 false (origin.Value 1)
    ∷ info kind.Array None 0 false (origin.Value 2)
    ∷ info kind.Integer None 0 false (origin.Value 3)
    ∷ info kind.Inline None 0 false (origin.Value 4)
    ∷ info kind.Table (Some 1) 1 false (origin.Dotted 5)
    ∷ info kind.Boolean (Some 2) 1 false (origin.Value 5)
    ∷ info kind.Table (Some 3) 2 false (origin.Dotted 7)
    ∷ info kind.Str (Some 4) 1 false (origin.Value 6)
    ∷ info kind.Inline (Some 6) 1 false (origin.Value 7)
    ∷ []
nested-infos = refl

-- `a = [1, [2], {b.c = true}]<LF>d.e = "x"<LF>d.f = {}<LF>`
nested-spans : spans_in (adoc false
    ((anended (aline [] (keyval (aname (akey (w leaf.BareKey (codes "a")) []) ((w leaf.Ws (codes " ")) ∷ [])
    ((w leaf.Ws (codes " ")) ∷ []))
    (avalue (array []) (entry None (scalar (w leaf.Integer (codes "1"))) none [] (Some ((w leaf.Ws (codes " ")) ∷ []))
    (entry None (array []) (entry None (scalar (w leaf.Integer (codes "2"))) none [] None none) []
    (Some ((w leaf.Ws (codes " ")) ∷ []))
    (entry None (inline []) (entry
    (Some (aname (akey (w leaf.BareKey (codes "b")) ((further [] [] (w leaf.BareKey (codes "c"))) ∷ []))
    ((w leaf.Ws (codes " ")) ∷ []) ((w leaf.Ws (codes " ")) ∷ []))) (scalar (w leaf.Boolean (codes "true"))) none []
    None none) [] None none))))) [] None) (w leaf.Newline (10 ∷ [])))
    ∷ (anended (aline [] (keyval (aname
    (akey (w leaf.BareKey (codes "d")) ((further [] [] (w leaf.BareKey (codes "e"))) ∷ []))
    ((w leaf.Ws (codes " ")) ∷ []) ((w leaf.Ws (codes " ")) ∷ []))
    (avalue (scalar (w leaf.Basic (34 ∷ 120 ∷ 34 ∷ []))) none)) [] None) (w leaf.Newline (10 ∷ [])))
    ∷ (anended (aline [] (keyval (aname
    (akey (w leaf.BareKey (codes "d")) ((further [] [] (w leaf.BareKey (codes "f"))) ∷ []))
    ((w leaf.Ws (codes " ")) ∷ []) ((w leaf.Ws (codes " ")) ∷ [])) (avalue (inline []) none)) [] None)
    (w leaf.Newline (10 ∷ []))) ∷ []) (aline [] blank [] None)) ≡
    (None, None)
    ∷ (span 4 26, span 0 1)
    ∷ (span 5 6, None)
    ∷ (span 8 11, None)
    ∷ (span 9 10, None)
    ∷ (span 13 25, None)
    ∷ (None, span 14 15)
    ∷ (span 20 24, span 16 17)
    ∷ (None, span 27 28)
    ∷ (span 33 36, span 29 30)
    ∷ (span 43 45, span 39 40)
    ∷ []
nested-spans = refl

-- `[a.b]<LF><LF>x = 1<LF>[a.c]<LF>[a.c.e]<LF>[a]<LF>[a.d]<LF>`
through-ok : fault_in (adoc false
    ((anended (aline [] (header []
    (akey (w leaf.BareKey (codes "a")) ((further [] [] (w leaf.BareKey (codes "b"))) ∷ [])) []) [] None)
    (w leaf.Newline (10 ∷ []))) ∷ (anended (aline [] blank [] None) (w leaf.Newline (10 ∷ [])))
    ∷ (anended (aline [] (keyval (aname (akey (w leaf.BareKey (codes "x")) []) ((w leaf.Ws (codes " ")) ∷ [])
    ((w leaf.Ws (codes " ")) ∷ [])) (avalue (scalar (w leaf.Integer (codes "1"))) none)) [] None)
    (w leaf.Newline (10 ∷ []))) ∷ (anended
    (aline [] (header [] (akey (w leaf.BareKey (codes "a")) ((further [] [] (w leaf.BareKey (codes "c"))) ∷ [])) []) []
    None) (w leaf.Newline (10 ∷ [])))
    ∷ (anended (aline [] (header []
    (akey (w leaf.BareKey (codes "a"))
    ((further [] [] (w leaf.BareKey (codes "c"))) ∷ (further [] [] (w leaf.BareKey (codes "e"))) ∷ [])) []) [] None)
    (w leaf.Newline (10 ∷ []))) ∷ (anended (aline [] (header [] (akey (w leaf.BareKey (codes "a")) []) []) [] None)
    (w leaf.Newline (10 ∷ []))) ∷ (anended
    (aline [] (header [] (akey (w leaf.BareKey (codes "a")) ((further [] [] (w leaf.BareKey (codes "d"))) ∷ [])) [])
    [] None) (w leaf.Newline (10 ∷ []))) ∷ []) (aline [] blank [] None)) ≡ None
through-ok = refl

-- `[a.b]<LF><LF>x = 1<LF>[a.c]<LF>[a.c.e]<LF>[a]<LF>[a.d]<LF>`
through-infos : infos_in (adoc false
    ((anended (aline [] (header []
    (akey (w leaf.BareKey (codes "a")) ((further [] [] (w leaf.BareKey (codes "b"))) ∷ [])) []) [] None)
    (w leaf.Newline (10 ∷ []))) ∷ (anended (aline [] blank [] None) (w leaf.Newline (10 ∷ [])))
    ∷ (anended (aline [] (keyval (aname (akey (w leaf.BareKey (codes "x")) []) ((w leaf.Ws (codes " ")) ∷ [])
    ((w leaf.Ws (codes " ")) ∷ [])) (avalue (scalar (w leaf.Integer (codes "1"))) none)) [] None)
    (w leaf.Newline (10 ∷ []))) ∷ (anended
    (aline [] (header [] (akey (w leaf.BareKey (codes "a")) ((further [] [] (w leaf.BareKey (codes "c"))) ∷ [])) []) []
    None) (w leaf.Newline (10 ∷ [])))
    ∷ (anended (aline [] (header []
    (akey (w leaf.BareKey (codes "a"))
    ((further [] [] (w leaf.BareKey (codes "c"))) ∷ (further [] [] (w leaf.BareKey (codes "e"))) ∷ [])) []) [] None)
    (w leaf.Newline (10 ∷ []))) ∷ (anended (aline [] (header [] (akey (w leaf.BareKey (codes "a")) []) []) [] None)
    (w leaf.Newline (10 ∷ []))) ∷ (anended
    (aline [] (header [] (akey (w leaf.BareKey (codes "a")) ((further [] [] (w leaf.BareKey (codes "d"))) ∷ [])) [])
    [] None) (w leaf.Newline (10 ∷ []))) ∷ []) (aline [] blank [] None)) ≡
    info kind.Table None 0 false origin.Root
    ∷ info kind.Table (Some 0) 5 false (origin.Header 4)
    ∷ info kind.Table (Some 1) 1 false (origin.Header 0)
    ∷ info kind.Integer (Some 2) 1 false (origin.Value 0)
    ∷ info kind.Table (Some 4) 2 false (origin.Header 2)
    ∷ info kind.Table (Some 7) 1 false (origin.Header 3)
    ∷ info kind.Table (Some 10) 1 false (origin.Header 5)
    ∷ []
through-infos = refl

-- `[a.b]<LF><LF>x = 1<LF>[a.c]<LF>[a.c.e]<LF>[a]<LF>[a.d]<LF>`
through-spans : spans_in (adoc false
    ((anended (aline [] (header []
    (akey (w leaf.BareKey (codes "a")) ((further [] [] (w leaf.BareKey (codes "b"))) ∷ [])) []) [] None)
    (w leaf.Newline (10 ∷ []))) ∷ (anended (aline [] blank [] None) (w leaf.Newline (10 ∷ [])))
    ∷ (anended (aline [] (keyval (aname (akey (w leaf.BareKey (codes "x")) []) ((w leaf.Ws (codes " ")) ∷ [])
    ((w leaf.Ws (codes " ")) ∷ [])) (avalue (scalar (w leaf.Integer (codes "1"))) none)) [] None)
    (w leaf.Newline (10 ∷ []))) ∷ (anended
    (aline [] (header [] (akey (w leaf.BareKey (codes "a")) ((further [] [] (w leaf.BareKey (codes "c"))) ∷ [])) []) []
    None) (w leaf.Newline (10 ∷ [])))
    ∷ (anended (aline [] (header []
    (akey (w leaf.BareKey (codes "a"))
    ((further [] [] (w leaf.BareKey (codes "c"))) ∷ (further [] [] (w leaf.BareKey (codes "e"))) ∷ [])) []) [] None)
    (w leaf.Newline (10 ∷ []))) ∷ (anended (aline [] (header [] (akey (w leaf.BareKey (codes "a")) []) []) [] None)
    (w leaf.Newline (10 ∷ []))) ∷ (anended
    (aline [] (header [] (akey (w leaf.BareKey (codes "a")) ((further [] [] (w leaf.BareKey (codes "d"))) ∷ [])) [])
    [] None) (w leaf.Newline (10 ∷ []))) ∷ []) (aline [] blank [] None)) ≡
    (None, None)
    ∷ (None, span 1 2)
    ∷ (None, span 3 4)
    ∷ (span 11 12, span 7 8)
    ∷ (None, span 16 17)
    ∷ (None, span 24 25)
    ∷ (None, span 34 35)
    ∷ []
through-spans = refl

-- `<LF>[a.b]<LF>[a.c]<LF>`
through-alone : infos_in (adoc false
    ((anended (aline [] blank [] None) (w leaf.Newline (10 ∷ [])))
    ∷ (anended (aline [] (header []
    (akey (w leaf.BareKey (codes "a")) ((further [] [] (w leaf.BareKey (codes "b"))) ∷ [])) []) [] None)
    (w leaf.Newline (10 ∷ []))) ∷ (anended
    (aline [] (header [] (akey (w leaf.BareKey (codes "a")) ((further [] [] (w leaf.BareKey (codes "c"))) ∷ [])) []) []
    None) (w leaf.Newline (10 ∷ []))) ∷ []) (aline [] blank [] None)) ≡
    info kind.Table None 0 false origin.Root
    ∷ info kind.Table (Some 0) 2 false (origin.Through 1)
    ∷ info kind.Table (Some 1) 1 false (origin.Header 0)
    ∷ info kind.Table (Some 3) 1 false (origin.Header 1)
    ∷ []
through-alone = refl

-- `<LF>[a.b]<LF>[a.c]<LF>`
through-alone-spans : spans_in
    (adoc false ((anended (aline [] blank [] None) (w leaf.Newline (10 ∷ [])))
    ∷ (anended (aline [] (header []
    (akey (w leaf.BareKey (codes "a")) ((further [] [] (w leaf.BareKey (codes "b"))) ∷ [])) []) [] None)
    (w leaf.Newline (10 ∷ []))) ∷ (anended
    (aline [] (header [] (akey (w leaf.BareKey (codes "a")) ((further [] [] (w leaf.BareKey (codes "c"))) ∷ [])) []) []
    None) (w leaf.Newline (10 ∷ []))) ∷ []) (aline [] blank [] None)) ≡
    (None, None)
    ∷ (None, span 2 3)
    ∷ (None, span 4 5)
    ∷ (None, span 10 11)
    ∷ []
through-alone-spans = refl

-- `d = 1979-05-27<LF>f = 1.5<LF>`
date-infos : infos_in (adoc false
    ((anended (aline [] (keyval (aname (akey (w leaf.BareKey (codes "d")) []) ((w leaf.Ws (codes " ")) ∷ [])
    ((w leaf.Ws (codes " ")) ∷ [])) (avalue (scalar (w leaf.LocalDate (codes "1979-05-27"))) none)) [] None)
    (w leaf.Newline (10 ∷ []))) ∷ (anended
    (aline [] (keyval (aname (akey (w leaf.BareKey (codes "f")) []) ((w leaf.Ws (codes " ")) ∷ [])
    ((w leaf.Ws (codes " ")) ∷ [])) (avalue (scalar (w leaf.Float (codes "1.5"))) none)) [] None)
    (w leaf.Newline (10 ∷ []))) ∷ []) (aline [] blank [] None)) ≡
    info kind.Table None 0 false origin.Root
    ∷ info kind.LocalDate (Some 0) 1 false (origin.Value 0)
    ∷ info kind.Float (Some 1) 1 false (origin.Value 1)
    ∷ []
date-infos = refl

-- `d = 1979-05-27<LF>f = 1.5<LF>`
date-spans : spans_in (adoc false
    ((anended (aline [] (keyval (aname (akey (w leaf.BareKey (codes "d")) []) ((w leaf.Ws (codes " ")) ∷ [])
    ((w leaf.Ws (codes " ")) ∷ [])) (avalue (scalar (w leaf.LocalDate (codes "1979-05-27"))) none)) [] None)
    (w leaf.Newline (10 ∷ []))) ∷ (anended
    (aline [] (keyval (aname (akey (w leaf.BareKey (codes "f")) []) ((w leaf.Ws (codes " ")) ∷ [])
    ((w leaf.Ws (codes " ")) ∷ [])) (avalue (scalar (w leaf.Float (codes "1.5"))) none)) [] None)
    (w leaf.Newline (10 ∷ []))) ∷ []) (aline [] blank [] None)) ≡
    (None, None)
    ∷ (span 4 14, span 0 1)
    ∷ (span 19 22, span 15 16)
    ∷ []
date-spans = refl

-- `[b]<LF>[a]<LF>[b.c]<LF>`
root-children : children [] (node_paths
    (mentions_in (adoc false ((anended (aline [] (header [] (akey (w leaf.BareKey (codes "b")) []) []) [] None)
    (w leaf.Newline (10 ∷ []))) ∷ (anended (aline [] (header [] (akey (w leaf.BareKey (codes "a")) []) []) [] None)
    (w leaf.Newline (10 ∷ []))) ∷ (anended
    (aline [] (header [] (akey (w leaf.BareKey (codes "b")) ((further [] [] (w leaf.BareKey (codes "c"))) ∷ [])) []) []
    None) (w leaf.Newline (10 ∷ []))) ∷ []) (aline [] blank [] None)))) ≡ (key (codes "b") ∷ [])
    ∷ (key (codes "a") ∷ []) ∷ []
root-children = refl

-- `[b]<LF>[a]<LF>[b.c]<LF>`
root-child_none : slice_get (children []
    (node_paths (mentions_in (adoc false
    ((anended (aline [] (header [] (akey (w leaf.BareKey (codes "b")) []) []) [] None) (w leaf.Newline (10 ∷ [])))
    ∷ (anended (aline [] (header [] (akey (w leaf.BareKey (codes "a")) []) []) [] None) (w leaf.Newline (10 ∷ [])))
    ∷ (anended (aline [] (header []
    (akey (w leaf.BareKey (codes "b")) ((further [] [] (w leaf.BareKey (codes "c"))) ∷ [])) []) [] None)
    (w leaf.Newline (10 ∷ []))) ∷ []) (aline [] blank [] None))))) 2 ≡ None
root-child_none = refl

-- `[[a]]<LF>[a.s]<LF>x.y = 1<LF>`
below_element-find_none : node_number
    (node_paths (mentions_in (adoc false
    ((anended (aline [] (element [] (akey (w leaf.BareKey (codes "a")) []) []) [] None) (w leaf.Newline (10 ∷ [])))
    ∷ (anended (aline [] (header []
    (akey (w leaf.BareKey (codes "a")) ((further [] [] (w leaf.BareKey (codes "s"))) ∷ [])) []) [] None)
    (w leaf.Newline (10 ∷ []))) ∷ (anended
    (aline [] (keyval (aname (akey (w leaf.BareKey (codes "x")) ((further [] [] (w leaf.BareKey (codes "y"))) ∷ []))
    ((w leaf.Ws (codes " ")) ∷ []) ((w leaf.Ws (codes " ")) ∷ [])) (avalue (scalar (w leaf.Integer (codes "1"))) none))
    [] None) (w leaf.Newline (10 ∷ []))) ∷ []) (aline [] blank [] None)))) (key (codes "a") ∷ index 1 ∷ []) ≡ None
below_element-find_none = refl

-- `[[a]]<LF>[a.s]<LF>x.y = 1<LF>`
below_element-find_first : node_number
    (node_paths (mentions_in (adoc false
    ((anended (aline [] (element [] (akey (w leaf.BareKey (codes "a")) []) []) [] None) (w leaf.Newline (10 ∷ [])))
    ∷ (anended (aline [] (header []
    (akey (w leaf.BareKey (codes "a")) ((further [] [] (w leaf.BareKey (codes "s"))) ∷ [])) []) [] None)
    (w leaf.Newline (10 ∷ []))) ∷ (anended
    (aline [] (keyval (aname (akey (w leaf.BareKey (codes "x")) ((further [] [] (w leaf.BareKey (codes "y"))) ∷ []))
    ((w leaf.Ws (codes " ")) ∷ []) ((w leaf.Ws (codes " ")) ∷ [])) (avalue (scalar (w leaf.Integer (codes "1"))) none))
    [] None) (w leaf.Newline (10 ∷ []))) ∷ []) (aline [] blank [] None))))
    (take 1 (key (codes "a") ∷ index 0 ∷ key (codes "s") ∷ [])) ≡ Some 1
below_element-find_first = refl

-- `[[a]]<LF>[a.s]<LF>x.y = 1<LF>`
below_element-node_at : slice_get
    (node_paths (mentions_in (adoc false
    ((anended (aline [] (element [] (akey (w leaf.BareKey (codes "a")) []) []) [] None) (w leaf.Newline (10 ∷ [])))
    ∷ (anended (aline [] (header []
    (akey (w leaf.BareKey (codes "a")) ((further [] [] (w leaf.BareKey (codes "s"))) ∷ [])) []) [] None)
    (w leaf.Newline (10 ∷ []))) ∷ (anended
    (aline [] (keyval (aname (akey (w leaf.BareKey (codes "x")) ((further [] [] (w leaf.BareKey (codes "y"))) ∷ []))
    ((w leaf.Ws (codes " ")) ∷ []) ((w leaf.Ws (codes " ")) ∷ [])) (avalue (scalar (w leaf.Integer (codes "1"))) none))
    [] None) (w leaf.Newline (10 ∷ []))) ∷ []) (aline [] blank [] None)))) 2 ≡ Some (key (codes "a") ∷ index 0 ∷ [])
below_element-node_at = refl

-- `[f]<LF>p.c = 1<LF>[f.p]<LF>`
header_at_dotted : fault_in (adoc false
    ((anended (aline [] (header [] (akey (w leaf.BareKey (codes "f")) []) []) [] None) (w leaf.Newline (10 ∷ [])))
    ∷ (anended (aline [] (keyval (aname
    (akey (w leaf.BareKey (codes "p")) ((further [] [] (w leaf.BareKey (codes "c"))) ∷ []))
    ((w leaf.Ws (codes " ")) ∷ []) ((w leaf.Ws (codes " ")) ∷ [])) (avalue (scalar (w leaf.Integer (codes "1"))) none))
    [] None) (w leaf.Newline (10 ∷ [])))
    ∷ (anended (aline [] (header []
    (akey (w leaf.BareKey (codes "f")) ((further [] [] (w leaf.BareKey (codes "p"))) ∷ [])) []) [] None)
    (w leaf.Newline (10 ∷ []))) ∷ []) (aline [] blank [] None)) ≡ fault 15 why.DefinedTwice
header_at_dotted = refl

-- `[f]<LF>p.c = 1<LF>[f.p.q]<LF>`
header_below_dotted : fault_in
    (adoc false ((anended (aline [] (header [] (akey (w leaf.BareKey (codes "f")) []) []) [] None)
    (w leaf.Newline (10 ∷ []))) ∷ (anended
    (aline [] (keyval (aname (akey (w leaf.BareKey (codes "p")) ((further [] [] (w leaf.BareKey (codes "c"))) ∷ []))
    ((w leaf.Ws (codes " ")) ∷ []) ((w leaf.Ws (codes " ")) ∷ [])) (avalue (scalar (w leaf.Integer (codes "1"))) none))
    [] None) (w leaf.Newline (10 ∷ [])))
    ∷ (anended (aline [] (header []
    (akey (w leaf.BareKey (codes "f"))
    ((further [] [] (w leaf.BareKey (codes "p"))) ∷ (further [] [] (w leaf.BareKey (codes "q"))) ∷ [])) []) [] None)
    (w leaf.Newline (10 ∷ []))) ∷ []) (aline [] blank [] None)) ≡ None
header_below_dotted = refl

-- `[f]<LF>p.c = 1<LF>[f.p.q]<LF>`
header_below_dotted-count : length
    (node_paths (mentions_in (adoc false
    ((anended (aline [] (header [] (akey (w leaf.BareKey (codes "f")) []) []) [] None) (w leaf.Newline (10 ∷ [])))
    ∷ (anended (aline [] (keyval (aname
    (akey (w leaf.BareKey (codes "p")) ((further [] [] (w leaf.BareKey (codes "c"))) ∷ []))
    ((w leaf.Ws (codes " ")) ∷ []) ((w leaf.Ws (codes " ")) ∷ [])) (avalue (scalar (w leaf.Integer (codes "1"))) none))
    [] None) (w leaf.Newline (10 ∷ [])))
    ∷ (anended (aline [] (header []
    (akey (w leaf.BareKey (codes "f"))
    ((further [] [] (w leaf.BareKey (codes "p"))) ∷ (further [] [] (w leaf.BareKey (codes "q"))) ∷ [])) []) [] None)
    (w leaf.Newline (10 ∷ []))) ∷ []) (aline [] blank [] None)))) ≡ 5
header_below_dotted-count = refl

-- `[a.b]<LF>[[a]]<LF>`
element_at_way : fault_in (adoc false
    ((anended (aline [] (header []
    (akey (w leaf.BareKey (codes "a")) ((further [] [] (w leaf.BareKey (codes "b"))) ∷ [])) []) [] None)
    (w leaf.Newline (10 ∷ []))) ∷ (anended (aline [] (element [] (akey (w leaf.BareKey (codes "a")) []) []) [] None)
    (w leaf.Newline (10 ∷ []))) ∷ []) (aline [] blank [] None)) ≡ fault 8 why.NotAnArray
element_at_way = refl

-- `a = {}<LF>a.b = 1<LF>`
dotted_at_inline : fault_in (adoc false
    ((anended (aline [] (keyval (aname (akey (w leaf.BareKey (codes "a")) []) ((w leaf.Ws (codes " ")) ∷ [])
    ((w leaf.Ws (codes " ")) ∷ [])) (avalue (inline []) none)) [] None) (w leaf.Newline (10 ∷ [])))
    ∷ (anended (aline [] (keyval (aname
    (akey (w leaf.BareKey (codes "a")) ((further [] [] (w leaf.BareKey (codes "b"))) ∷ []))
    ((w leaf.Ws (codes " ")) ∷ []) ((w leaf.Ws (codes " ")) ∷ [])) (avalue (scalar (w leaf.Integer (codes "1"))) none))
    [] None) (w leaf.Newline (10 ∷ []))) ∷ []) (aline [] blank [] None)) ≡ fault 7 why.NotByDots
dotted_at_inline = refl

-- `[[a]]<LF>[a.b]<LF>[[a]]<LF>[a.b]<LF>`
two_elements-ok : fault_in (adoc false
    ((anended (aline [] (element [] (akey (w leaf.BareKey (codes "a")) []) []) [] None) (w leaf.Newline (10 ∷ [])))
    ∷ (anended (aline [] (header []
    (akey (w leaf.BareKey (codes "a")) ((further [] [] (w leaf.BareKey (codes "b"))) ∷ [])) []) [] None)
    (w leaf.Newline (10 ∷ []))) ∷ (anended (aline [] (element [] (akey (w leaf.BareKey (codes "a")) []) []) [] None)
    (w leaf.Newline (10 ∷ []))) ∷ (anended
    (aline [] (header [] (akey (w leaf.BareKey (codes "a")) ((further [] [] (w leaf.BareKey (codes "b"))) ∷ [])) []) []
    None) (w leaf.Newline (10 ∷ []))) ∷ []) (aline [] blank [] None)) ≡ None
two_elements-ok = refl

-- `[[a]]<LF>[a.b]<LF>[[a]]<LF>[a.b]<LF>`
two_elements-paths : node_paths
    (mentions_in (adoc false ((anended (aline [] (element [] (akey (w leaf.BareKey (codes "a")) []) []) [] None)
    (w leaf.Newline (10 ∷ []))) ∷ (anended
    (aline [] (header [] (akey (w leaf.BareKey (codes "a")) ((further [] [] (w leaf.BareKey (codes "b"))) ∷ [])) []) []
    None) (w leaf.Newline (10 ∷ [])))
    ∷ (anended (aline [] (element [] (akey (w leaf.BareKey (codes "a")) []) []) [] None) (w leaf.Newline (10 ∷ [])))
    ∷ (anended (aline [] (header []
    (akey (w leaf.BareKey (codes "a")) ((further [] [] (w leaf.BareKey (codes "b"))) ∷ [])) []) [] None)
    (w leaf.Newline (10 ∷ []))) ∷ []) (aline [] blank [] None))) ≡ [] ∷ (key (codes "a") ∷ [])
    ∷ (key (codes "a") ∷ index 0 ∷ []) ∷ (key (codes "a") ∷ index 0 ∷ key (codes "b") ∷ [])
    ∷ (key (codes "a") ∷ index 1 ∷ []) ∷ (key (codes "a") ∷ index 1 ∷ key (codes "b") ∷ []) ∷ []
two_elements-paths = refl

-- `[[a]]<LF>[a.b]<LF>[[a]]<LF>[a.b]<LF>`
two_elements-children : children (key (codes "a") ∷ [])
    (node_paths (mentions_in (adoc false
    ((anended (aline [] (element [] (akey (w leaf.BareKey (codes "a")) []) []) [] None) (w leaf.Newline (10 ∷ [])))
    ∷ (anended (aline [] (header []
    (akey (w leaf.BareKey (codes "a")) ((further [] [] (w leaf.BareKey (codes "b"))) ∷ [])) []) [] None)
    (w leaf.Newline (10 ∷ []))) ∷ (anended (aline [] (element [] (akey (w leaf.BareKey (codes "a")) []) []) [] None)
    (w leaf.Newline (10 ∷ []))) ∷ (anended
    (aline [] (header [] (akey (w leaf.BareKey (codes "a")) ((further [] [] (w leaf.BareKey (codes "b"))) ∷ [])) []) []
    None) (w leaf.Newline (10 ∷ []))) ∷ []) (aline [] blank [] None)))) ≡ (key (codes "a") ∷ index 0 ∷ [])
    ∷ (key (codes "a") ∷ index 1 ∷ []) ∷ []
two_elements-children = refl

-- `[[a]]<LF>[a.b]<LF>[[a]]<LF>[a.b]<LF>`
two_elements-root_children : children []
    (node_paths (mentions_in (adoc false
    ((anended (aline [] (element [] (akey (w leaf.BareKey (codes "a")) []) []) [] None) (w leaf.Newline (10 ∷ [])))
    ∷ (anended (aline [] (header []
    (akey (w leaf.BareKey (codes "a")) ((further [] [] (w leaf.BareKey (codes "b"))) ∷ [])) []) [] None)
    (w leaf.Newline (10 ∷ []))) ∷ (anended (aline [] (element [] (akey (w leaf.BareKey (codes "a")) []) []) [] None)
    (w leaf.Newline (10 ∷ []))) ∷ (anended
    (aline [] (header [] (akey (w leaf.BareKey (codes "a")) ((further [] [] (w leaf.BareKey (codes "b"))) ∷ [])) []) []
    None) (w leaf.Newline (10 ∷ []))) ∷ []) (aline [] blank [] None)))) ≡ (key (codes "a") ∷ []) ∷ []
two_elements-root_children = refl

-- `[[a]]<LF>[a.b]<LF>[[a]]<LF>[a.b]<LF>`
two_elements-find : node_number
    (node_paths (mentions_in (adoc false
    ((anended (aline [] (element [] (akey (w leaf.BareKey (codes "a")) []) []) [] None) (w leaf.Newline (10 ∷ [])))
    ∷ (anended (aline [] (header []
    (akey (w leaf.BareKey (codes "a")) ((further [] [] (w leaf.BareKey (codes "b"))) ∷ [])) []) [] None)
    (w leaf.Newline (10 ∷ []))) ∷ (anended (aline [] (element [] (akey (w leaf.BareKey (codes "a")) []) []) [] None)
    (w leaf.Newline (10 ∷ []))) ∷ (anended
    (aline [] (header [] (akey (w leaf.BareKey (codes "a")) ((further [] [] (w leaf.BareKey (codes "b"))) ∷ [])) []) []
    None) (w leaf.Newline (10 ∷ []))) ∷ []) (aline [] blank [] None))))
    (key (codes "a") ∷ index 1 ∷ key (codes "b") ∷ []) ≡ Some 5
two_elements-find = refl

-- `[[a]]<LF>[a.b]<LF>[[a]]<LF>[a.b]<LF>`
two_elements-find_none : node_number
    (node_paths (mentions_in (adoc false
    ((anended (aline [] (element [] (akey (w leaf.BareKey (codes "a")) []) []) [] None) (w leaf.Newline (10 ∷ [])))
    ∷ (anended (aline [] (header []
    (akey (w leaf.BareKey (codes "a")) ((further [] [] (w leaf.BareKey (codes "b"))) ∷ [])) []) [] None)
    (w leaf.Newline (10 ∷ []))) ∷ (anended (aline [] (element [] (akey (w leaf.BareKey (codes "a")) []) []) [] None)
    (w leaf.Newline (10 ∷ []))) ∷ (anended
    (aline [] (header [] (akey (w leaf.BareKey (codes "a")) ((further [] [] (w leaf.BareKey (codes "b"))) ∷ [])) []) []
    None) (w leaf.Newline (10 ∷ []))) ∷ []) (aline [] blank [] None)))) (key (codes "a") ∷ index 2 ∷ []) ≡ None
two_elements-find_none = refl

-- `[[a]]<LF>[a.b]<LF>[[a]]<LF>[a.b]<LF>`
two_elements-infos : infos_in (adoc false
    ((anended (aline [] (element [] (akey (w leaf.BareKey (codes "a")) []) []) [] None) (w leaf.Newline (10 ∷ [])))
    ∷ (anended (aline [] (header []
    (akey (w leaf.BareKey (codes "a")) ((further [] [] (w leaf.BareKey (codes "b"))) ∷ [])) []) [] None)
    (w leaf.Newline (10 ∷ []))) ∷ (anended (aline [] (element [] (akey (w leaf.BareKey (codes "a")) []) []) [] None)
    (w leaf.Newline (10 ∷ []))) ∷ (anended
    (aline [] (header [] (akey (w leaf.BareKey (codes "a")) ((further [] [] (w leaf.BareKey (codes "b"))) ∷ [])) []) []
    None) (w leaf.Newline (10 ∷ []))) ∷ []) (aline [] blank [] None)) ≡
    info kind.Table None 0 false origin.Root
    ∷ info kind.Tables (Some 0) 4 false origin.Tables
    ∷ info kind.Table None 0 true (origin.Element 0)
    ∷ info kind.Table (Some 2) 1 false (origin.Header 1)
    ∷ info kind.Table None 0 true (origin.Element 2)
    ∷ info kind.Table (Some 5) 1 false (origin.Header 3)
    ∷ []
two_elements-infos = refl

-- `[[a]]<LF>[a.b]<LF>[[a]]<LF>[a.b]<LF>`
two_elements-spans : spans_in (adoc false
    ((anended (aline [] (element [] (akey (w leaf.BareKey (codes "a")) []) []) [] None) (w leaf.Newline (10 ∷ [])))
    ∷ (anended (aline [] (header []
    (akey (w leaf.BareKey (codes "a")) ((further [] [] (w leaf.BareKey (codes "b"))) ∷ [])) []) [] None)
    (w leaf.Newline (10 ∷ []))) ∷ (anended (aline [] (element [] (akey (w leaf.BareKey (codes "a")) []) []) [] None)
    (w leaf.Newline (10 ∷ []))) ∷ (anended
    (aline [] (header [] (akey (w leaf.BareKey (codes "a")) ((further [] [] (w leaf.BareKey (codes "b"))) ∷ [])) []) []
    None) (w leaf.Newline (10 ∷ []))) ∷ []) (aline [] blank [] None)) ≡
    (None, None)
    ∷ (None, span 2 3)
    ∷ (None, None)
    ∷ (None, span 9 10)
    ∷ (None, None)
    ∷ (None, span 21 22)
    ∷ []
two_elements-spans = refl

-- `[a.b.c]<LF>[a]<LF>b.x = 1<LF>`
dotted_passes_prefixes : fault_in
    (adoc false ((anended (aline []
    (header [] (akey (w leaf.BareKey (codes "a"))
    ((further [] [] (w leaf.BareKey (codes "b"))) ∷ (further [] [] (w leaf.BareKey (codes "c"))) ∷ [])) []) [] None)
    (w leaf.Newline (10 ∷ []))) ∷ (anended (aline [] (header [] (akey (w leaf.BareKey (codes "a")) []) []) [] None)
    (w leaf.Newline (10 ∷ []))) ∷ (anended
    (aline [] (keyval (aname (akey (w leaf.BareKey (codes "b")) ((further [] [] (w leaf.BareKey (codes "x"))) ∷ []))
    ((w leaf.Ws (codes " ")) ∷ []) ((w leaf.Ws (codes " ")) ∷ [])) (avalue (scalar (w leaf.Integer (codes "1"))) none))
    [] None) (w leaf.Newline (10 ∷ []))) ∷ []) (aline [] blank [] None)) ≡ None
dotted_passes_prefixes = refl

-- `[a.b.c]<LF>[a]<LF>b.x = 1<LF>[a.b]<LF>`
dotted_passes_prefixes-header : fault_in
    (adoc false ((anended (aline []
    (header [] (akey (w leaf.BareKey (codes "a"))
    ((further [] [] (w leaf.BareKey (codes "b"))) ∷ (further [] [] (w leaf.BareKey (codes "c"))) ∷ [])) []) [] None)
    (w leaf.Newline (10 ∷ []))) ∷ (anended (aline [] (header [] (akey (w leaf.BareKey (codes "a")) []) []) [] None)
    (w leaf.Newline (10 ∷ []))) ∷ (anended
    (aline [] (keyval (aname (akey (w leaf.BareKey (codes "b")) ((further [] [] (w leaf.BareKey (codes "x"))) ∷ []))
    ((w leaf.Ws (codes " ")) ∷ []) ((w leaf.Ws (codes " ")) ∷ [])) (avalue (scalar (w leaf.Integer (codes "1"))) none))
    [] None) (w leaf.Newline (10 ∷ [])))
    ∷ (anended (aline [] (header []
    (akey (w leaf.BareKey (codes "a")) ((further [] [] (w leaf.BareKey (codes "b"))) ∷ [])) []) [] None)
    (w leaf.Newline (10 ∷ []))) ∷ []) (aline [] blank [] None)) ≡ fault 23 why.DefinedTwice
dotted_passes_prefixes-header = refl

-- `a = 1<LF>"a" = 2<LF>`
quoted_key : fault_in (adoc false
    ((anended (aline [] (keyval (aname (akey (w leaf.BareKey (codes "a")) []) ((w leaf.Ws (codes " ")) ∷ [])
    ((w leaf.Ws (codes " ")) ∷ [])) (avalue (scalar (w leaf.Integer (codes "1"))) none)) [] None)
    (w leaf.Newline (10 ∷ []))) ∷ (anended
    (aline [] (keyval (aname (akey (w leaf.Basic (34 ∷ 97 ∷ 34 ∷ [])) []) ((w leaf.Ws (codes " ")) ∷ [])
    ((w leaf.Ws (codes " ")) ∷ [])) (avalue (scalar (w leaf.Integer (codes "2"))) none)) [] None)
    (w leaf.Newline (10 ∷ []))) ∷ []) (aline [] blank [] None)) ≡ fault 6 why.DuplicateKey
quoted_key = refl

-- `a = 1<LF>[a]<LF>`
header_at_value : fault_in (adoc false
    ((anended (aline [] (keyval (aname (akey (w leaf.BareKey (codes "a")) []) ((w leaf.Ws (codes " ")) ∷ [])
    ((w leaf.Ws (codes " ")) ∷ [])) (avalue (scalar (w leaf.Integer (codes "1"))) none)) [] None)
    (w leaf.Newline (10 ∷ []))) ∷ (anended (aline [] (header [] (akey (w leaf.BareKey (codes "a")) []) []) [] None)
    (w leaf.Newline (10 ∷ []))) ∷ []) (aline [] blank [] None)) ≡ fault 7 why.DefinedTwice
header_at_value = refl

-- `a = 1<LF>[a.b]`
header_below_value : fault_in (adoc false
    ((anended (aline [] (keyval (aname (akey (w leaf.BareKey (codes "a")) []) ((w leaf.Ws (codes " ")) ∷ [])
    ((w leaf.Ws (codes " ")) ∷ [])) (avalue (scalar (w leaf.Integer (codes "1"))) none)) [] None)
    (w leaf.Newline (10 ∷ []))) ∷ [])
    (aline [] (header [] (akey (w leaf.BareKey (codes "a")) ((further [] [] (w leaf.BareKey (codes "b"))) ∷ [])) []) []
    None)) ≡ fault 7 why.NotATable
header_below_value = refl

-- `a = [{}]<LF>[[a]]`
element_at_array : fault_in (adoc false
    ((anended (aline [] (keyval (aname (akey (w leaf.BareKey (codes "a")) []) ((w leaf.Ws (codes " ")) ∷ [])
    ((w leaf.Ws (codes " ")) ∷ [])) (avalue (array []) (entry None (inline []) none [] None none))) [] None)
    (w leaf.Newline (10 ∷ []))) ∷ []) (aline [] (element [] (akey (w leaf.BareKey (codes "a")) []) []) [] None))
    ≡ fault 11 why.NotAnArray
element_at_array = refl

-- `[[a]]<LF>[a]<LF>`
header_at_elements : fault_in (adoc false
    ((anended (aline [] (element [] (akey (w leaf.BareKey (codes "a")) []) []) [] None) (w leaf.Newline (10 ∷ [])))
    ∷ (anended (aline [] (header [] (akey (w leaf.BareKey (codes "a")) []) []) [] None) (w leaf.Newline (10 ∷ [])))
    ∷ []) (aline [] blank [] None)) ≡ fault 7 why.DefinedTwice
header_at_elements = refl

-- `[t]<LF>[t]`
header_twice : fault_in (adoc false
    ((anended (aline [] (header [] (akey (w leaf.BareKey (codes "t")) []) []) [] None) (w leaf.Newline (10 ∷ []))) ∷ [])
    (aline [] (header [] (akey (w leaf.BareKey (codes "t")) []) []) [] None)) ≡ fault 5 why.DefinedTwice
header_twice = refl

-- `a.b = 1<LF>[a]`
header_at_dotted_root : fault_in
    (adoc false ((anended (aline []
    (keyval (aname (akey (w leaf.BareKey (codes "a")) ((further [] [] (w leaf.BareKey (codes "b"))) ∷ []))
    ((w leaf.Ws (codes " ")) ∷ []) ((w leaf.Ws (codes " ")) ∷ [])) (avalue (scalar (w leaf.Integer (codes "1"))) none))
    [] None) (w leaf.Newline (10 ∷ []))) ∷ []) (aline [] (header [] (akey (w leaf.BareKey (codes "a")) []) []) [] None))
    ≡ fault 9 why.DefinedTwice
header_at_dotted_root = refl

-- `a.b = 1<LF>a = 2`
value_at_dotted : fault_in (adoc false
    ((anended (aline [] (keyval (aname
    (akey (w leaf.BareKey (codes "a")) ((further [] [] (w leaf.BareKey (codes "b"))) ∷ []))
    ((w leaf.Ws (codes " ")) ∷ []) ((w leaf.Ws (codes " ")) ∷ [])) (avalue (scalar (w leaf.Integer (codes "1"))) none))
    [] None) (w leaf.Newline (10 ∷ []))) ∷ [])
    (aline [] (keyval (aname (akey (w leaf.BareKey (codes "a")) []) ((w leaf.Ws (codes " ")) ∷ [])
    ((w leaf.Ws (codes " ")) ∷ [])) (avalue (scalar (w leaf.Integer (codes "2"))) none)) [] None))
    ≡ fault 8 why.DuplicateKey
value_at_dotted = refl

-- `a = {b = 1, b.c = 2}`
dotted_at_value-inline : fault_in
    (adoc false [] (aline [] (keyval
    (aname (akey (w leaf.BareKey (codes "a")) []) ((w leaf.Ws (codes " ")) ∷ []) ((w leaf.Ws (codes " ")) ∷ []))
    (avalue (inline []) (entry (Some
    (aname (akey (w leaf.BareKey (codes "b")) []) ((w leaf.Ws (codes " ")) ∷ []) ((w leaf.Ws (codes " ")) ∷ [])))
    (scalar (w leaf.Integer (codes "1"))) none [] (Some ((w leaf.Ws (codes " ")) ∷ []))
    (entry (Some (aname (akey (w leaf.BareKey (codes "b")) ((further [] [] (w leaf.BareKey (codes "c"))) ∷ []))
    ((w leaf.Ws (codes " ")) ∷ []) ((w leaf.Ws (codes " ")) ∷ []))) (scalar (w leaf.Integer (codes "2"))) none [] None
    none)))) [] None)) ≡ fault 12 why.NotByDots
dotted_at_value-inline = refl

-- `a = {b.c = 1, b = 2}`
value_at_dotted-inline : fault_in
    (adoc false [] (aline [] (keyval
    (aname (akey (w leaf.BareKey (codes "a")) []) ((w leaf.Ws (codes " ")) ∷ []) ((w leaf.Ws (codes " ")) ∷ []))
    (avalue (inline []) (entry (Some
    (aname (akey (w leaf.BareKey (codes "b")) ((further [] [] (w leaf.BareKey (codes "c"))) ∷ []))
    ((w leaf.Ws (codes " ")) ∷ []) ((w leaf.Ws (codes " ")) ∷ []))) (scalar (w leaf.Integer (codes "1"))) none []
    (Some ((w leaf.Ws (codes " ")) ∷ []))
    (entry (Some (aname (akey (w leaf.BareKey (codes "b")) []) ((w leaf.Ws (codes " ")) ∷ [])
    ((w leaf.Ws (codes " ")) ∷ []))) (scalar (w leaf.Integer (codes "2"))) none [] None none)))) [] None))
    ≡ fault 14 why.DuplicateKey
value_at_dotted-inline = refl

-- `[[t.a]]<LF>[t]<LF>a.x = 1`
dotted_at_elements : fault_in (adoc false
    ((anended (aline [] (element []
    (akey (w leaf.BareKey (codes "t")) ((further [] [] (w leaf.BareKey (codes "a"))) ∷ [])) []) [] None)
    (w leaf.Newline (10 ∷ []))) ∷ (anended (aline [] (header [] (akey (w leaf.BareKey (codes "t")) []) []) [] None)
    (w leaf.Newline (10 ∷ []))) ∷ [])
    (aline [] (keyval (aname (akey (w leaf.BareKey (codes "a")) ((further [] [] (w leaf.BareKey (codes "x"))) ∷ []))
    ((w leaf.Ws (codes " ")) ∷ []) ((w leaf.Ws (codes " ")) ∷ [])) (avalue (scalar (w leaf.Integer (codes "1"))) none))
    [] None)) ≡ fault 12 why.NotByDots
dotted_at_elements = refl

-- `[a.b.c]<LF>[a]<LF>b.c.d = 1`
dotted_at_header : fault_in (adoc false
    ((anended (aline [] (header []
    (akey (w leaf.BareKey (codes "a"))
    ((further [] [] (w leaf.BareKey (codes "b"))) ∷ (further [] [] (w leaf.BareKey (codes "c"))) ∷ [])) []) [] None)
    (w leaf.Newline (10 ∷ []))) ∷ (anended (aline [] (header [] (akey (w leaf.BareKey (codes "a")) []) []) [] None)
    (w leaf.Newline (10 ∷ []))) ∷ [])
    (aline [] (keyval (aname (akey (w leaf.BareKey (codes "b"))
    ((further [] [] (w leaf.BareKey (codes "c"))) ∷ (further [] [] (w leaf.BareKey (codes "d"))) ∷ []))
    ((w leaf.Ws (codes " ")) ∷ []) ((w leaf.Ws (codes " ")) ∷ [])) (avalue (scalar (w leaf.Integer (codes "1"))) none))
    [] None)) ≡ fault 14 why.NotByDots
dotted_at_header = refl

-- `[a]<LF>b = {}<LF>[a.b.c]`
header_below_inline : fault_in
    (adoc false ((anended (aline [] (header [] (akey (w leaf.BareKey (codes "a")) []) []) [] None)
    (w leaf.Newline (10 ∷ []))) ∷ (anended
    (aline [] (keyval (aname (akey (w leaf.BareKey (codes "b")) []) ((w leaf.Ws (codes " ")) ∷ [])
    ((w leaf.Ws (codes " ")) ∷ [])) (avalue (inline []) none)) [] None) (w leaf.Newline (10 ∷ []))) ∷ [])
    (aline [] (header [] (akey (w leaf.BareKey (codes "a"))
    ((further [] [] (w leaf.BareKey (codes "b"))) ∷ (further [] [] (w leaf.BareKey (codes "c"))) ∷ [])) []) [] None))
    ≡ fault 14 why.NotATable
header_below_inline = refl

-- `(BOM)[t]<LF>[t]`
after_bom : fault_in (adoc true
    ((anended (aline [] (header [] (akey (w leaf.BareKey (codes "t")) []) []) [] None) (w leaf.Newline (10 ∷ []))) ∷ [])
    (aline [] (header [] (akey (w leaf.BareKey (codes "t")) []) []) [] None)) ≡ fault 8 why.DefinedTwice
after_bom = refl

-- `# c`
comment-ok : fault_in (adoc false [] (aline [] blank [] (Some (w leaf.Comment (codes "# c"))))) ≡ None
comment-ok = refl

-- `# c`
comment-count : length (node_paths
    (mentions_in (adoc false [] (aline [] blank [] (Some (w leaf.Comment (codes "# c"))))))) ≡ 1
comment-count = refl

-- `1.2 = 3`
numeric_keys-ok : fault_in (adoc false []
    (aline [] (keyval (aname (akey (w leaf.BareKey (codes "1")) ((further [] [] (w leaf.BareKey (codes "2"))) ∷ []))
    ((w leaf.Ws (codes " ")) ∷ []) ((w leaf.Ws (codes " ")) ∷ [])) (avalue (scalar (w leaf.Integer (codes "3"))) none))
    [] None)) ≡ None
numeric_keys-ok = refl

-- `1.2 = 3`
numeric_keys-count : length (node_paths
    (mentions_in (adoc false [] (aline []
    (keyval (aname (akey (w leaf.BareKey (codes "1")) ((further [] [] (w leaf.BareKey (codes "2"))) ∷ []))
    ((w leaf.Ws (codes " ")) ∷ []) ((w leaf.Ws (codes " ")) ∷ [])) (avalue (scalar (w leaf.Integer (codes "3"))) none))
    [] None)))) ≡ 3
numeric_keys-count = refl

-- `"" = ''`
empty_key-ok : fault_in (adoc false []
    (aline [] (keyval (aname (akey (w leaf.Basic (34 ∷ 34 ∷ [])) []) ((w leaf.Ws (codes " ")) ∷ [])
    ((w leaf.Ws (codes " ")) ∷ [])) (avalue (scalar (w leaf.Literal (codes "''"))) none)) [] None)) ≡ None
empty_key-ok = refl

-- `"" = ''`
empty_key-count : length (node_paths
    (mentions_in (adoc false [] (aline []
    (keyval (aname (akey (w leaf.Basic (34 ∷ 34 ∷ [])) []) ((w leaf.Ws (codes " ")) ∷ [])
    ((w leaf.Ws (codes " ")) ∷ [])) (avalue (scalar (w leaf.Literal (codes "''"))) none)) [] None)))) ≡ 2
empty_key-count = refl

-- `a . 'b' . "c" = 1`
spaced_keys-ok : fault_in (adoc false []
    (aline [] (keyval (aname (akey (w leaf.BareKey (codes "a"))
    ((further ((w leaf.Ws (codes " ")) ∷ []) ((w leaf.Ws (codes " ")) ∷ []) (w leaf.Literal (codes "'b'")))
    ∷ (further ((w leaf.Ws (codes " ")) ∷ []) ((w leaf.Ws (codes " ")) ∷ []) (w leaf.Basic (34 ∷ 99 ∷ 34 ∷ []))) ∷ []))
    ((w leaf.Ws (codes " ")) ∷ []) ((w leaf.Ws (codes " ")) ∷ [])) (avalue (scalar (w leaf.Integer (codes "1"))) none))
    [] None)) ≡ None
spaced_keys-ok = refl

-- `a . 'b' . "c" = 1`
spaced_keys-count : length (node_paths
    (mentions_in (adoc false [] (aline []
    (keyval (aname (akey (w leaf.BareKey (codes "a"))
    ((further ((w leaf.Ws (codes " ")) ∷ []) ((w leaf.Ws (codes " ")) ∷ []) (w leaf.Literal (codes "'b'")))
    ∷ (further ((w leaf.Ws (codes " ")) ∷ []) ((w leaf.Ws (codes " ")) ∷ []) (w leaf.Basic (34 ∷ 99 ∷ 34 ∷ []))) ∷ []))
    ((w leaf.Ws (codes " ")) ∷ []) ((w leaf.Ws (codes " ")) ∷ [])) (avalue (scalar (w leaf.Integer (codes "1"))) none))
    [] None)))) ≡ 4
spaced_keys-count = refl

-- `a = [1, [2, 'x'],]`
nested_arrays-ok : fault_in (adoc false []
    (aline [] (keyval (aname (akey (w leaf.BareKey (codes "a")) []) ((w leaf.Ws (codes " ")) ∷ [])
    ((w leaf.Ws (codes " ")) ∷ []))
    (avalue (array []) (entry None (scalar (w leaf.Integer (codes "1"))) none [] (Some ((w leaf.Ws (codes " ")) ∷ []))
    (entry None (array []) (entry None (scalar (w leaf.Integer (codes "2"))) none []
    (Some ((w leaf.Ws (codes " ")) ∷ [])) (entry None (scalar (w leaf.Literal (codes "'x'"))) none [] None none)) []
    (Some []) none)))) [] None)) ≡ None
nested_arrays-ok = refl

-- `a = [1, [2, 'x'],]`
nested_arrays-count : length (node_paths
    (mentions_in (adoc false [] (aline []
    (keyval (aname (akey (w leaf.BareKey (codes "a")) []) ((w leaf.Ws (codes " ")) ∷ []) ((w leaf.Ws (codes " ")) ∷ []))
    (avalue (array []) (entry None (scalar (w leaf.Integer (codes "1"))) none [] (Some ((w leaf.Ws (codes " ")) ∷ []))
    (entry None (array []) (entry None (scalar (w leaf.Integer (codes "2"))) none []
    (Some ((w leaf.Ws (codes " ")) ∷ [])) (entry None (scalar (w leaf.Literal (codes "'x'"))) none [] None none)) []
    (Some []) none)))) [] None)))) ≡ 6
nested_arrays-count = refl

-- `a = {b.c = 1, b.d = {}}`
dotted_in_braces-ok : fault_in
    (adoc false [] (aline [] (keyval
    (aname (akey (w leaf.BareKey (codes "a")) []) ((w leaf.Ws (codes " ")) ∷ []) ((w leaf.Ws (codes " ")) ∷ []))
    (avalue (inline []) (entry (Some
    (aname (akey (w leaf.BareKey (codes "b")) ((further [] [] (w leaf.BareKey (codes "c"))) ∷ []))
    ((w leaf.Ws (codes " ")) ∷ []) ((w leaf.Ws (codes " ")) ∷ []))) (scalar (w leaf.Integer (codes "1"))) none []
    (Some ((w leaf.Ws (codes " ")) ∷ []))
    (entry (Some (aname (akey (w leaf.BareKey (codes "b")) ((further [] [] (w leaf.BareKey (codes "d"))) ∷ []))
    ((w leaf.Ws (codes " ")) ∷ []) ((w leaf.Ws (codes " ")) ∷ []))) (inline []) none [] None none)))) [] None)) ≡ None
dotted_in_braces-ok = refl

-- `a = {b.c = 1, b.d = {}}`
dotted_in_braces-count : length
    (node_paths (mentions_in (adoc false []
    (aline [] (keyval (aname (akey (w leaf.BareKey (codes "a")) []) ((w leaf.Ws (codes " ")) ∷ [])
    ((w leaf.Ws (codes " ")) ∷ []))
    (avalue (inline []) (entry (Some
    (aname (akey (w leaf.BareKey (codes "b")) ((further [] [] (w leaf.BareKey (codes "c"))) ∷ []))
    ((w leaf.Ws (codes " ")) ∷ []) ((w leaf.Ws (codes " ")) ∷ []))) (scalar (w leaf.Integer (codes "1"))) none []
    (Some ((w leaf.Ws (codes " ")) ∷ []))
    (entry (Some (aname (akey (w leaf.BareKey (codes "b")) ((further [] [] (w leaf.BareKey (codes "d"))) ∷ []))
    ((w leaf.Ws (codes " ")) ∷ []) ((w leaf.Ws (codes " ")) ∷ []))) (inline []) none [] None none)))) [] None)))) ≡ 5
dotted_in_braces-count = refl

-- `[a]<LF>[b]<LF>[a.c]<LF>`
three_headers-ok : fault_in (adoc false
    ((anended (aline [] (header [] (akey (w leaf.BareKey (codes "a")) []) []) [] None) (w leaf.Newline (10 ∷ [])))
    ∷ (anended (aline [] (header [] (akey (w leaf.BareKey (codes "b")) []) []) [] None) (w leaf.Newline (10 ∷ [])))
    ∷ (anended (aline [] (header []
    (akey (w leaf.BareKey (codes "a")) ((further [] [] (w leaf.BareKey (codes "c"))) ∷ [])) []) [] None)
    (w leaf.Newline (10 ∷ []))) ∷ []) (aline [] blank [] None)) ≡ None
three_headers-ok = refl

-- `[a]<LF>[b]<LF>[a.c]<LF>`
three_headers-count : length (node_paths
    (mentions_in (adoc false ((anended (aline [] (header [] (akey (w leaf.BareKey (codes "a")) []) []) [] None)
    (w leaf.Newline (10 ∷ []))) ∷ (anended (aline [] (header [] (akey (w leaf.BareKey (codes "b")) []) []) [] None)
    (w leaf.Newline (10 ∷ []))) ∷ (anended
    (aline [] (header [] (akey (w leaf.BareKey (codes "a")) ((further [] [] (w leaf.BareKey (codes "c"))) ∷ [])) []) []
    None) (w leaf.Newline (10 ∷ []))) ∷ []) (aline [] blank [] None)))) ≡ 4
three_headers-count = refl

-- `[[a]]<LF>[[a.b]]<LF>[[a]]<LF>[[a.b]]<LF>`
nested_elements-ok : fault_in (adoc false
    ((anended (aline [] (element [] (akey (w leaf.BareKey (codes "a")) []) []) [] None) (w leaf.Newline (10 ∷ [])))
    ∷ (anended (aline [] (element []
    (akey (w leaf.BareKey (codes "a")) ((further [] [] (w leaf.BareKey (codes "b"))) ∷ [])) []) [] None)
    (w leaf.Newline (10 ∷ []))) ∷ (anended (aline [] (element [] (akey (w leaf.BareKey (codes "a")) []) []) [] None)
    (w leaf.Newline (10 ∷ []))) ∷ (anended
    (aline [] (element [] (akey (w leaf.BareKey (codes "a")) ((further [] [] (w leaf.BareKey (codes "b"))) ∷ [])) []) []
    None) (w leaf.Newline (10 ∷ []))) ∷ []) (aline [] blank [] None)) ≡ None
nested_elements-ok = refl

-- `[[a]]<LF>[[a.b]]<LF>[[a]]<LF>[[a.b]]<LF>`
nested_elements-count : length
    (node_paths (mentions_in (adoc false
    ((anended (aline [] (element [] (akey (w leaf.BareKey (codes "a")) []) []) [] None) (w leaf.Newline (10 ∷ [])))
    ∷ (anended (aline [] (element []
    (akey (w leaf.BareKey (codes "a")) ((further [] [] (w leaf.BareKey (codes "b"))) ∷ [])) []) [] None)
    (w leaf.Newline (10 ∷ []))) ∷ (anended (aline [] (element [] (akey (w leaf.BareKey (codes "a")) []) []) [] None)
    (w leaf.Newline (10 ∷ []))) ∷ (anended
    (aline [] (element [] (akey (w leaf.BareKey (codes "a")) ((further [] [] (w leaf.BareKey (codes "b"))) ∷ [])) []) []
    None) (w leaf.Newline (10 ∷ []))) ∷ []) (aline [] blank [] None)))) ≡ 8
nested_elements-count = refl

-- `[x.y.z.w]<LF>[x]<LF>`
long_header-ok : fault_in (adoc false
    ((anended (aline [] (header []
    (akey (w leaf.BareKey (codes "x"))
    ((further [] [] (w leaf.BareKey (codes "y"))) ∷ (further [] [] (w leaf.BareKey (codes "z")))
    ∷ (further [] [] (w leaf.BareKey (codes "w"))) ∷ [])) []) [] None) (w leaf.Newline (10 ∷ [])))
    ∷ (anended (aline [] (header [] (akey (w leaf.BareKey (codes "x")) []) []) [] None) (w leaf.Newline (10 ∷ [])))
    ∷ []) (aline [] blank [] None)) ≡ None
long_header-ok = refl

-- `[x.y.z.w]<LF>[x]<LF>`
long_header-count : length (node_paths
    (mentions_in (adoc false ((anended
    (aline [] (header [] (akey (w leaf.BareKey (codes "x"))
    ((further [] [] (w leaf.BareKey (codes "y"))) ∷ (further [] [] (w leaf.BareKey (codes "z")))
    ∷ (further [] [] (w leaf.BareKey (codes "w"))) ∷ [])) []) [] None) (w leaf.Newline (10 ∷ [])))
    ∷ (anended (aline [] (header [] (akey (w leaf.BareKey (codes "x")) []) []) [] None) (w leaf.Newline (10 ∷ [])))
    ∷ []) (aline [] blank [] None)))) ≡ 5
long_header-count = refl

-- ``
empty-ok : fault_in (adoc false [] (aline [] blank [] None)) ≡ None
empty-ok = refl

-- ``
empty-count : length (node_paths (mentions_in (adoc false [] (aline [] blank [] None)))) ≡ 1
empty-count = refl

-- `{x=1,x=2}`
value_twice : fault_in_value (avalue (inline [])
    (entry (Some (aname (akey (w leaf.BareKey (codes "x")) []) [] [])) (scalar (w leaf.Integer (codes "1"))) none []
    (Some []) (entry (Some (aname (akey (w leaf.BareKey (codes "x")) []) [] [])) (scalar (w leaf.Integer (codes "2")))
    none [] None none))) ≡ fault 5 why.DuplicateKey
value_twice = refl

-- `[{}, { x = 1, x.y = 2 }]`
value_twice-in_array : fault_in_value
    (avalue (array []) (entry None (inline []) none [] (Some ((w leaf.Ws (codes " ")) ∷ []))
    (entry None (inline ((w leaf.Ws (codes " ")) ∷ []))
    (entry (Some (aname (akey (w leaf.BareKey (codes "x")) []) ((w leaf.Ws (codes " ")) ∷ [])
    ((w leaf.Ws (codes " ")) ∷ []))) (scalar (w leaf.Integer (codes "1"))) none [] (Some ((w leaf.Ws (codes " ")) ∷ []))
    (entry (Some (aname (akey (w leaf.BareKey (codes "x")) ((further [] [] (w leaf.BareKey (codes "y"))) ∷ []))
    ((w leaf.Ws (codes " ")) ∷ []) ((w leaf.Ws (codes " ")) ∷ []))) (scalar (w leaf.Integer (codes "2"))) none
    ((w leaf.Ws (codes " ")) ∷ []) None none)) [] None none))) ≡ fault 14 why.NotByDots
value_twice-in_array = refl

-- `[{x = 1}, {x = 1}]`
value_ok : fault_in_value (avalue (array [])
    (entry None (inline []) (entry
    (Some (aname (akey (w leaf.BareKey (codes "x")) []) ((w leaf.Ws (codes " ")) ∷ []) ((w leaf.Ws (codes " ")) ∷ [])))
    (scalar (w leaf.Integer (codes "1"))) none [] None none) [] (Some ((w leaf.Ws (codes " ")) ∷ []))
    (entry None (inline []) (entry
    (Some (aname (akey (w leaf.BareKey (codes "x")) []) ((w leaf.Ws (codes " ")) ∷ []) ((w leaf.Ws (codes " ")) ∷ [])))
    (scalar (w leaf.Integer (codes "1"))) none [] None none) [] None none))) ≡ None
value_ok = refl

-- `1`
value_scalar : fault_in_value (avalue (scalar (w leaf.Integer (codes "1"))) none) ≡ None
value_scalar = refl
