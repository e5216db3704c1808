mod Proper
