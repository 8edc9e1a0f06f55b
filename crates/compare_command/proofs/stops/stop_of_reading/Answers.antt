use Rattle.compare_command.proofs.stops.stop_of_reading.Goals as goal

pub returns : goal.returns
returns g c old_read new_read of_old of_new = record { is_error = c.requires; of_old = of_old; of_new = of_new }
