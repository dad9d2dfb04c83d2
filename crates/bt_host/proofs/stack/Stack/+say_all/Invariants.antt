use Rattle.bt_host.proofs.stack.Stack.+say_all.Given as goal

abbrev pub decreases-say_all : goal.decreases-say_all
decreases-say_all g l = l.self.now.upper.may_say
