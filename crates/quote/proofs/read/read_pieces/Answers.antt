-- Each byte that is read goes on with what was read so far, and a quote ends it.
use Rattle.quote.proofs.Progress.{so_far_byte, found}
use Rattle.quote.proofs.read.read_pieces.Goals as goal
use Rattle.std.proofs.Common.{◌≡◌, option_map, rules, length, List, ℕ, Bor, ◌-◌}

pub loop-byte-preserved : goal.loop-byte-preserved
loop-byte-preserved c =
    let some = c.in-Some-read_byte in
    so_far_byte _ _ _ _ _ _ some.byte c.loop-byte.invariant some.ensures.byte some.ensures.after some.ensures.shorter c.in_ok-push.ensures.items

pub returns-clause-found : goal.returns-clause-found
returns-clause-found c =
    let e : c.map.result ≡ option_map (λ (x : Bor (List ℕ)). length c.args.input.now - length x.now) c.strip_prefix-closed.result = search rules in
    rw e (found _ _ _ _ c.strip_prefix-closed.result c.loop-byte.invariant c.in_default-read_byte.ensures.byte c.strip_prefix-closed.ensures.cases)
