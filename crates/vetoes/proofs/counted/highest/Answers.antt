use Rattle.std.proofs.Common.{◌≡◌, max, fold, arith, rules}
use Rattle.vetoes.proofs.Highest.{highest_fold}
use Rattle.vetoes.proofs.counted.highest.Goals as goal

pub returns : goal.returns
returns g c =
    let f = g.T.Counted.counted in
    let folded : c.fold.result ≡ fold (λ n x. max n (f x)) 0 c.args.items.now = search rules in
    let e = highest_fold f c.args.items.now 0 in
    omega arith
