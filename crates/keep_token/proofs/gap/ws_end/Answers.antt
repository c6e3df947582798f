use Rattle.std.proofs.Common.{◌≡◌, ℕ, ◌+◌, List, get_or, drop, true, false, Some, ap, ◌∙◌, add-zero, get_or-drop, arith}
use Rattle.std.proofs.Common.{length, inl, inr}
use Rattle.std.proofs.lemmas.Bool.{cases_lt}
use Rattle.std.proofs.lemmas.List.{get_or_past}
use Rattle.std.proofs.lemmas.List.Sums.{prefix_len-drop_yes, prefix_len-drop_no, prefix_len-drop_all}
use Rattle.std.specs.List.{prefix_len}
use Rattle.keep_types.specs.declared.leaf.Leaf.TheVariants as leaf
use Rattle.keep_token.specs.Abnf.{is_ws}
use Rattle.keep_token.specs.Scanning.{gap_at, moved}
use Rattle.keep_token.proofs.Ends.{at_rest, gap_at_place, gap_ends}
use Rattle.keep_token.proofs.GapLaws.{ws_found}
use Rattle.keep_token.proofs.gap.ws_end.Goals as goal

-- where the first byte is white space, the rest is counted from the next
one_more : (text : List ℕ) (at n : ℕ) → is_ws (get_or text at 0) ≡ true → prefix_len is_ws (drop (at + 1) text) ≡ n
    → prefix_len is_ws (drop at text) ≡ 1 + n
one_more text at n white rest =
    elim (cases_lt at (length text)) [
      | inl within ↦ prefix_len-drop_yes is_ws text at 0 within white ∙ ap (λ m. 1 + m) rest
      | inr past ↦ absurd (let no : is_ws 0 ≡ true = rw (get_or_past text at 0 past) at white in cc)
    ]

-- none begins at another byte, nor at the end
none_begins : (text : List ℕ) (at : ℕ) → is_ws (get_or text at 0) ≡ false → prefix_len is_ws (drop at text) ≡ 0
none_begins text at other =
    elim (cases_lt at (length text)) [
      | inl within ↦ prefix_len-drop_no is_ws text at 0 within other
      | inr past ↦ prefix_len-drop_all is_ws text at past
    ]

-- the leaf at the place
found : (text : List ℕ) (at n : ℕ) → is_ws (get_or text at 0) ≡ true → prefix_len is_ws (drop (at + 1) text) ≡ n
    → gap_at (drop at text) ≡ Some (leaf.Ws, 1 + n)
found text at n white rest =
    (ws_found (drop at text) (rw (get_or-drop at text 0 0, add-zero) white)).0
    ∙ ap (λ m. Some (leaf.Ws, m)) (one_more text at n white rest)

-- the leaf that one byte is
one_found : (c : goal.Then-not-is_ws) → gap_at (drop c.args.at c.args.text.now) ≡ Some (leaf.Ws, 1)
one_found c =
    let other : is_ws (get_or c.args.text.now (c.args.at + 1) 0) ≡ false =
    rw (c.is_ws.ensures, c.byte_at.ensures, c.as_bytes-bytes.ensures.value) at c.if-not-is_ws.true in
    found c.args.text.now c.args.at 0 c.requires.begins (none_begins c.args.text.now (c.args.at + 1) other)

-- the leaf of the first byte and of the run after it
run_found : (c : goal.After-ws_run) → gap_at (drop c.args.at c.args.text.now) ≡ Some (leaf.Ws, 1 + c.ws_run.result)
run_found c =
    found c.args.text.now c.args.at c.ws_run.result c.requires.begins
    (at_rest (prefix_len is_ws) c.ws_run.result c.as_bytes-bytes.result.now c.args.text.now (c.args.at + 1)
    c.as_bytes-bytes.ensures.value c.ws_run.ensures.len)

pub returns-then-not-is_ws-clause-leaf : goal.returns-then-not-is_ws-clause-leaf
returns-then-not-is_ws-clause-leaf c = (gap_at_place c.args.text.now c.args.at leaf.Ws 1 (one_found c)).1

pub returns-then-not-is_ws-clause-ends : goal.returns-then-not-is_ws-clause-ends
returns-then-not-is_ws-clause-ends c =
    gap_ends c.args.text.now c.args.at leaf.Ws 1 (λ i. (c.type_inv.text i).fits) c.utf8.text c.requires.bound.0
    (one_found c)

pub returns-then-not-is_ws-clause-value : goal.returns-then-not-is_ws-clause-value
returns-then-not-is_ws-clause-value c = ap (moved c.args.at) (one_found c)

pub returns-clause-leaf : goal.returns-clause-leaf
returns-clause-leaf c =
    let same : c.args.at + (1 + c.ws_run.result) ≡ c.args.at + 1 + c.ws_run.result = omega arith in
    rw same at (gap_at_place c.args.text.now c.args.at leaf.Ws (1 + c.ws_run.result) (run_found c)).1

pub returns-clause-ends : goal.returns-clause-ends
returns-clause-ends c =
    let same : c.args.at + (1 + c.ws_run.result) ≡ c.args.at + 1 + c.ws_run.result = omega arith in
    rw same at (gap_ends c.args.text.now c.args.at leaf.Ws (1 + c.ws_run.result) (λ i. (c.type_inv.text i).fits)
    c.utf8.text c.requires.bound.0 (run_found c))

pub returns-clause-value : goal.returns-clause-value
returns-clause-value c =
    let same : c.args.at + (1 + c.ws_run.result) ≡ c.args.at + 1 + c.ws_run.result = omega arith in
    ap (moved c.args.at) (run_found c) ∙ ap (λ n. Some (leaf.Ws, n)) same
