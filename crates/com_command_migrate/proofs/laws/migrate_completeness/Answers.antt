use Rattle.com_commands.proofs.Answering.{responds_whole}
use Rattle.com_command_migrate.specs.Migrating.{IsMigrated, migrating}
use Rattle.com_command_migrate.proofs.laws.migrate_completeness.Goals as goal

pub returns : goal.returns
returns c = responds_whole migrating IsMigrated
