use Rattle.bt_host.proofs.upper.Upper.+drive_by.Given as goal

abbrev pub decreases-drive_by : goal.decreases-drive_by
decreases-drive_by g l = l.count
