use Rattle.std.proofs.Common.{◌≡◌, max, fold, arith, rules}
use Rattle.vetoes.proofs.Highest.{highest_fold}
use Rattle.nested.proofs.mapping.highest.Goals as goal

pub returns : goal.returns
returns c =
    let folded : c.fold.result ≡ fold max 0 c.args.map.now = search rules in
    let e = highest_fold (λ a. a) c.args.map.now 0 in
    omega arith
