-- The insert's table is that of its first new key, and what is written is told of the block with that number, which is
-- the one below whose header it comes.
use Rattle.std.proofs.Common.{◌≡◌, ◌++◌, ◌∙◌, ◌∷◌, [], List, Some, ap, false, length, refl, slice_get, string_bytes}
use Rattle.std.proofs.Common.{subst, subst₂, sym, true, ℕ}
use Rattle.keep_edit_plan.specs.TextEdits.{change_of}
use Rattle.keep_path.specs.Path.{Part, without_last}
use Rattle.keep_edit_runs.specs.AddedLines.{IsTableBelow}
use Rattle.keep_edit_runs.specs.KindsRun.{IsInsertedBelow}
use Rattle.keep_edit_runs.specs.Tail.{IsBlockFor, IsPutBelow, bytes_of}
use Rattle.keep_edit_runs.specs.declared.kinds_run.KindsRun.{KindsRun}
use Rattle.keep_edit_runs.specs.declared.tail.Block.{Block}
use Rattle.keep_edit_runs.proofs.SameRuns.{blocks_in}
use Rattle.keep_edit_runs.proofs.before.Before.put_below.Goals as goal
use Rattle.keep_edit_runs.proofs.before.Before.put_below.Goals.{else-keep_below, then-keep_below}

seam : (before after : List Block) (b : Block) → slice_get (before ++ b ∷ after) (length before) ≡ Some b
seam [] after b = refl
seam (a ∷ before) after b = seam before after b

-- the block with its number
numbered : (blocks before after : List Block) (b : Block) (n : ℕ) → blocks ≡ before ++ b ∷ after → length before ≡ n
    → slice_get blocks n ≡ Some b
numbered blocks before after b n is number =
    subst₂ (λ (l : List Block) (k : ℕ). slice_get l k ≡ Some b) (sym is) number (seam before after b)

pub returns-clause-put : goal.returns-clause-put
returns-clause-put c = λ put.
    let now = c.args.self.now in
    let x = c.args.edit.now in
    let old = c.args.run.now in
    let o = c.args.outline in
    let t = c.args.made.change in
    let there = blocks_in old.tail in
    let (first, (is, same)) = c.in-Some.ensures in
    let number = c.in-Some-block_for.block in
    let text = c.in-Some-text_below.ensures in
    let bytes = string_bytes c.in-Some-text_below.text in
    let block : IsBlockFor there (without_last first) number =
    subst (λ (table : List Part). IsBlockFor there table number) same c.in-Some-block_for.ensures in
    elim c.if-keep_below.branch [
      | then-keep_below w ↦
          let yes = sym w.result-is ∙ put in
          let tail = w.put_below.new.self in
          subst (IsInsertedBelow now old x o t c.args.made.line) (sym w.run-is) (record {
            first = first;
            is = is;
            line_is = text.line;
            clear = sym c.take_up_to.ensures ∙ c.if-take_up_to.false;
            beside = c.leave.ensures.0 c.if-not-leave.false;
            number = number;
            block = block;
            text = bytes;
            written = text.written block.block
                (numbered there block.before block.after block.block number block.is block.number);
            leaves = text.leaves;
            lines = subst (λ (table : List Part).
                IsTableBelow old.lines (change_of t).at table c.keep_below.new.self) same
                (c.keep_below.ensures w.if-keep_below.true);
            put = subst₂ (λ (table : List Part) (b : List ℕ). IsPutBelow there number table b (blocks_in tail)) same
                w.as_str.ensures.value (w.put_below.ensures.put yes);
            outlines = w.put_below.ensures.outlines yes;
            rest = refl;
          })
      | else-keep_below w ↦ absurd
          (let both : false ≡ true = sym w.if-keep_below.false ∙ sym w.result-is ∙ put in cc)
    ]

pub returns-clause-refused : goal.returns-clause-refused
returns-clause-refused c = λ refused.
    elim c.if-keep_below.branch [
      | then-keep_below w ↦ record {
        changes = ap (λ (r : KindsRun). r.so_far.changes) w.run-is;
        tail = ap (λ (r : KindsRun). bytes_of (blocks_in r.tail)) w.run-is
            ∙ w.put_below.ensures.refused (sym w.result-is ∙ refused);
      }
      | else-keep_below w ↦ record {
        changes = ap (λ (r : KindsRun). r.so_far.changes) w.run-is;
        tail = ap (λ (r : KindsRun). bytes_of (blocks_in r.tail)) w.run-is;
      }
    ]
