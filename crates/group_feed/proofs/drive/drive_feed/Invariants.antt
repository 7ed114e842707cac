use Rattle.group_feed.proofs.drive.drive_feed.Given as goal

abbrev pub ghosts-drive_named : goal.ghosts-drive_named
ghosts-drive_named g a = record { lists = g.O.Opener.lists a.opener.now }
