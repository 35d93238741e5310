use Rattle.std.proofs.Common.{rules, ◌∙◌}
use Rattle.std.proofs.lemmas.Iterator.{YieldsList-from_slice}
use Rattle.std.proofs.lemmas.Iterator.Consumers.{YieldsList-from_filter, count_from_yields_List}
use Rattle.table.specs.Cards.{is_on}
use Rattle.table.proofs.OnRows.{on_filter}
use Rattle.table.proofs.open.count_on.Goals as goal

pub returns : goal.returns
returns c =
    let cards = c.args.cards.now in
    count_from_yields_List _ _ c.count.ensures.ran (YieldsList-from_filter {s = c.filter.result} _ is_on (YieldsList-from_slice cards cc) c.filter.ensures.closure (λ x b q k. search rules))
    ∙ on_filter cards
