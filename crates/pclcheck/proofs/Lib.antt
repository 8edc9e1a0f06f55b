mod Fulfilling
