use Rattle.std.proofs.Common.{◌≡◌, sym, subst, ap, ◌∙◌, ◌∷◌, [], arith}
use Rattle.l2cap_config.specs.declared.options.Options.{Options}
use Rattle.l2cap_config.specs.Items.{joined, options_in}
use Rattle.l2cap_config.specs.Reading.{items_of, options_read, view}
use Rattle.l2cap_config.proofs.ItemLists.{continued, begins, first_fits, first_shorter, rest_octets, loop_step, stopped, finished}
use Rattle.l2cap_config.proofs.reading.all_of.Goals as goal

pub loop-rest-init : goal.loop-rest-init
loop-rest-init c = (λ i. omega (arith, c.type_inv.octets i), subst (λ (o : Options). continued o (items_of c.args.octets.now) ≡ options_read c.args.octets.now) (sym c.none-options.ensures) (begins (items_of c.args.octets.now)))

pub returns-in_default : goal.returns-in_default
returns-in_default c = stopped c.loop-rest.options c.loop-rest.rest.now _ (sym c.is_empty.ensures ∙ c.loop-rest-test.true) c.in_default.ensures c.loop-rest.invariant.1

pub options_from-requires : goal.options_from-requires
options_from-requires c = first_fits c.loop-rest.rest.now (view c.in-Some.item) c.in-Some.behind.now c.loop-rest.invariant.0 c.in-Some.ensures

pub loop-rest-smaller : goal.loop-rest-smaller
loop-rest-smaller c = first_shorter c.loop-rest.rest.now (view c.in-Some.item) c.in-Some.behind.now c.in-Some.ensures

pub loop-rest-preserved : goal.loop-rest-preserved
loop-rest-preserved c =
    let item = view c.in-Some.item in
    let rest = c.in-Some.behind.now in
    let now : c.join.new.self ≡ joined c.loop-rest.options (options_in (item ∷ [])) = c.join.ensures ∙ ap (joined c.loop-rest.options) c.options_from.ensures in (
      rest_octets c.loop-rest.rest.now item rest c.loop-rest.invariant.0 c.in-Some.ensures,
      ap (λ (o : Options). continued o (items_of rest)) now ∙ sym (loop_step c.loop-rest.options c.loop-rest.rest.now item rest c.in-Some.ensures) ∙ c.loop-rest.invariant.1,
    )

pub returns : goal.returns
returns c = finished c.loop-rest.options c.loop-rest.rest.now _ (sym c.is_empty.ensures ∙ c.loop-rest-test.false) c.loop-rest.invariant.1
