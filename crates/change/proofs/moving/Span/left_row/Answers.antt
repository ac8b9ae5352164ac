use Rattle.std.proofs.Common.{◌++◌, map, Some, ap, ◌∙◌, rules}
use Rattle.std.specs.List.{filter_map}
use Rattle.change.specs.Moves.{left}
use Rattle.change.proofs.Loops.{filter_map_all}
use Rattle.change.proofs.moving.Span.left_row.Goals as goal

pub returns-clause-items : goal.returns-clause-items
returns-clause-items c =
    let made = left c.args.self.time c.args.self.gone in
    c.add_each.ensures.items (λ e. Some (made e)) (λ x r k. search rules)
    ∙ ap (λ z. z ++ filter_map (λ e. Some (made e)) c.as_slice.result.now) c.no_moves-moves.ensures.items
    ∙ filter_map_all made c.as_slice.result.now
    ∙ ap (λ z. map made z) c.as_slice.ensures.used
