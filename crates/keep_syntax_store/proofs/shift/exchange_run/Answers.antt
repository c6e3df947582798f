use Rattle.std.proofs.Common.{◌≡◌, ◌+◌, ◌++◌, length, take, drop, map, vec_len, sym, ap, ◌∙◌, arith, append_assoc}
use Rattle.std.proofs.lemmas.List.{length-append}
use Rattle.keep_syntax_store.proofs.ExchangeLaws.{take_prefix, drop_prefix, take_length}
use Rattle.keep_syntax_store.proofs.shift.exchange_run.Goals as goal

pub returns : goal.returns
returns g c =
    let xs = c.args.items.now.items in
    let ns = c.args.run.now.items in
    let from = c.args.from in
    let to = c.args.to in
    let f = g.T.Shift.shifted c.args.old.now c.args.new.now in
    let l : length xs ≡ vec_len c.args.items.now = omega (arith, c.args.items.now.ok.0) in
    let m : length ns ≡ vec_len c.args.run.now = omega (arith, c.args.run.now.ok.0) in
    let prefix = take from xs ++ ns in
    let back = drop to xs in
    let now : c.exchange.new.items.items ≡ prefix ++ back =
    c.exchange.ensures.items ∙ sym (append_assoc (take from xs) ns back) in
    let n : length prefix ≡ from + c.len.result =
    omega (
      arith,
      length-append (take from xs) ns,
      take_length xs from (omega (arith, c.requires.room.order, c.requires.room.within, l)),
      m,
      c.len.ensures,
    ) in
    record {
      items_are = c.shift_from.ensures.items
          ∙ ap (λ ys. take (from + c.len.result) ys ++ map f (drop (from + c.len.result) ys)) now
          ∙ ap (λ ys. ys ++ map f (drop (from + c.len.result) (prefix ++ back)))
          (take_prefix prefix back (from + c.len.result) n)
          ∙ ap (λ ys. prefix ++ map f ys) (drop_prefix prefix back (from + c.len.result) n)
          ∙ append_assoc (take from xs) ns (map f back);
      run_is = c.exchange.ensures.gone;
      len = omega (arith, c.shift_from.ensures.len, c.exchange.ensures.len.0);
      run_len = c.exchange.ensures.len.1;
      room = omega (
        arith,
        c.shift_from.ensures.capacity,
        c.shift_from.ensures.len,
        c.exchange.ensures.capacity.0,
        c.exchange.ensures.len.0,
        c.exchange.ensures.len.1,
        c.requires.room.room,
        c.requires.room.order,
      );
      room_for_run = omega (arith, c.exchange.ensures.capacity.1, c.args.run.now.ok.1);
    }
