use Rattle.std.proofs.Common.{sym, ap, ◌∙◌}
use Rattle.l2cap_config.specs.Items.{joined, options_in}
use Rattle.l2cap_config.specs.declared.options.Options.{Options}
use Rattle.l2cap_config.proofs.ItemLists.{options-append}
use Rattle.l2cap_config.proofs.options.merged.Goals as goal

pub returns-clause-lists : goal.returns-clause-lists
returns-clause-lists c = λ xs ys e f.
    c.join.ensures ∙ ap (λ (o : Options). joined o c.args.later.now) (c.copied-all.ensures ∙ e) ∙ ap (joined (options_in xs)) f ∙ sym (options-append xs ys)
