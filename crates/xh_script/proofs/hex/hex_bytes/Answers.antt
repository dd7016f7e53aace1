use Rattle.xh_script.proofs.Common.{ap, append-nil, append_assoc, arith, drop, length, length-append, length-drop, sym, ◌*◌, ◌++◌, ◌+◌, ◌∙◌, ◌≤◌}
use Rattle.xh_script.proofs.WordLemmas.{hex_at, hex_none}
use Rattle.xh_script.proofs.hex.hex_bytes.Goals as goal

pub loop-i-preserved : goal.loop-i-preserved
loop-i-preserved c =
    let i = c.loop-i.i in
    let word = c.args.word.now in
    let step = hex_at word (2 * i) (2 * i + 1) (2 * (i + 1)) (omega arith) (omega arith) (omega arith) in
    record {
      so_far = rw (c.push.ensures.items, c.hex_value.ensures.is, c.hex_value-in-loop-i.ensures.is, append_assoc) (c.loop-i.invariant.so_far ∙ ap (λ t. c.loop-i.bytes.items ++ t) step);
      count = rw (c.push.ensures.items) (rw (length-append) (omega arith));
    }

pub returns : goal.returns
returns c =
    let word = c.args.word.now in
    let rest : length (drop (2 * c.loop-i.i) word) ≤ 1 = rw length-drop (omega arith) in
    sym (c.loop-i.invariant.so_far ∙ ap (λ t. c.loop-i.bytes.items ++ t) (hex_none _ rest) ∙ append-nil c.loop-i.bytes.items)
