mod PartsInTurn
