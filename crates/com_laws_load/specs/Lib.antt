pub mod LoadScenarios
